-- The first fault of a byte string that is no OFF file. The order of the faults is this project's profile.
use Rattle.std.specs.Prelude.{ℕ, List, [], ◌∷◌, nat_lt, length, codes, Option, Some, None, if◌then◌else◌}
use Rattle.std.specs.Str.{bytes_eq}
use Rattle.qh_model.specs.declared.{limits.TheConstants.BYTE_LIMIT, read_fault.ReadFault.ReadFault}
use Rattle.qh_model.specs.declared.read_fault.ReadFault.TheVariants.{NoHeader, Big, NotOff}
use Rattle.qh_model.specs.headline.{Words.Word, FileFault.counted_fault, FileFault.next_number_fault, OffFile.off_words}

-- the first fault of the numbers of vertices, faces and edges, all of which are required, and then of the coordinates of the vertices; only the first number is
-- used, and any words may follow
abbrev pub counts_fault : List Word → Option ReadFault
counts_fault ws =
    next_number_fault (λ vertices. next_number_fault (λ faces. next_number_fault (λ edges. counted_fault (λ rest. None) vertices))) ws

abbrev pub off_words_fault : List Word → Option ReadFault
off_words_fault [] = Some NoHeader
off_words_fault (w ∷ ws) = if bytes_eq w.text (codes "OFF") then counts_fault ws else Some NotOff

-- the first fault; more bytes than the limit have precedence over all others
abbrev pub first_off_fault : List ℕ → Option ReadFault
first_off_fault bytes = if nat_lt BYTE_LIMIT (length bytes) then Some Big else off_words_fault (off_words bytes)
