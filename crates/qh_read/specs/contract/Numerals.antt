-- The words of a text as numbers: those of an OFF file, outside comments.
-- Source: as for OFF files (Geomview OFF; a comment begins at any byte `#`), whose faces consist of such numbers.
use Rattle.std.specs.Prelude.{ℕ, ℤ, pos, List, [], ◌∷◌, ◌≢◌, map, nat_le, if◌then◌else◌, Option, Some, None}
use Rattle.qh_model.specs.{declared.limits.TheConstants.COORDINATE_LIMIT, headline.Words.Word, headline.Numbers.number_of, headline.OffFile.off_words}
use Rattle.qh_read.specs.declared.numerals.Numeral.{Numeral}

-- a number from 0 to the limit
abbrev pub small_number : Option ℤ → Option ℕ
small_number (Some (pos n)) = if nat_le n COORDINATE_LIMIT then Some n else None
small_number o = None

-- a word as a number from 0 to the limit, if it is one, with its line
abbrev pub numeral_of : Word → Numeral
numeral_of w = record { number = small_number (number_of w.text); line = w.line }

-- all words of a text, in their order
abbrev pub numerals_in : List ℕ → List Numeral
numerals_in bytes = map numeral_of (off_words bytes)

-- no word remains, or the next one is on a different line
abbrev pub IsElsewhere : ℕ → List Numeral → Type 0
IsElsewhere line [] = Unit {0}
IsElsewhere line (w ∷ ws) = w.line ≢ line
