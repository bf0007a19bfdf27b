-- The first fault of a byte string that is no point file. The order of the faults is this project's profile.
use Rattle.std.specs.Prelude.{ℕ, ℤ, pos, negsuc, List, [], ◌∷◌, ◌*◌, ◌==◌, ◌&&◌, nat_le, nat_lt, length, Option, Some, None, Bool, false, if◌then◌else◌, zero}
use Rattle.std.specs.{Prelude.suc, Option.option_or}
use Rattle.qh_model.specs.declared.{limits.TheConstants.POINT_LIMIT, limits.TheConstants.BYTE_LIMIT, read_fault.ReadFault.ReadFault}
use Rattle.qh_model.specs.declared.read_fault.ReadFault.TheVariants.{NoHeader, BadNumber, NotThree, Count, Range, Long, Short, Big}
use Rattle.qh_model.specs.headline.{Limits.is_coordinate, Words.data_words, Words.Word, Numbers.number_of}

-- the fault of a coordinate on this line
abbrev pub coordinate_fault : Option ℤ → ℕ → Option ReadFault
coordinate_fault None line = Some (BadNumber line)
coordinate_fault (Some z) line = if is_coordinate z then None else Some (Range line)

-- the first fault of a number of coordinates and then of the words after them; of two faults the one of the earlier word
abbrev pub coordinates_fault : (List Word → Option ReadFault) → ℕ → List Word → Option ReadFault
coordinates_fault after zero ws = after ws
coordinates_fault after (suc k) [] = Some Short
coordinates_fault after (suc k) (w ∷ ws) = option_or (coordinate_fault (number_of w.text) w.line) (coordinates_fault after k ws)

-- the count is from 1 to the limit, and the coordinates follow it
abbrev pub counted_fault : (List Word → Option ReadFault) → ℤ → List Word → Option ReadFault
counted_fault after (pos n) ws = if nat_le 1 n && nat_le n POINT_LIMIT then coordinates_fault after (3 * n) ws else Some Count
counted_fault after (negsuc n) ws = Some Count

-- the first fault of a number of the header, on the line of its word, and then of the words after it
abbrev pub number_fault : (ℤ → List Word → Option ReadFault) → Option ℤ → ℕ → List Word → Option ReadFault
number_fault after None line ws = Some (BadNumber line)
number_fault after (Some z) line ws = after z ws

-- the next word is a number of the header
abbrev pub next_number_fault : (ℤ → List Word → Option ReadFault) → List Word → Option ReadFault
next_number_fault after [] = Some NoHeader
next_number_fault after (w ∷ ws) = number_fault after (number_of w.text) w.line ws

-- no word may follow the last coordinate
abbrev pub long_fault : List Word → Option ReadFault
long_fault [] = None
long_fault (w ∷ ws) = Some (Long w.line)

abbrev pub is_three : ℤ → Bool
is_three (pos n) = n == 3
is_three (negsuc n) = false

-- a first number 3 is the dimension, and the other number is the count
abbrev pub headed_fault : ℤ → ℤ → List Word → Option ReadFault
headed_fault first second ws =
    if is_three first then counted_fault long_fault second ws
    else if is_three second then counted_fault long_fault first ws
    else Some NotThree

-- the first fault of the two numbers of the header, and then of the rest
abbrev pub words_fault : List Word → Option ReadFault
words_fault ws = next_number_fault (λ first. next_number_fault (headed_fault first)) ws

-- the first fault; more bytes than the limit have precedence over all others
abbrev pub first_fault : List ℕ → Option ReadFault
first_fault bytes = if nat_lt BYTE_LIMIT (length bytes) then Some Big else words_fault (data_words bytes)
