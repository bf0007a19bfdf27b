-- Texts in pieces.
use Rattle.std.specs.{List.flat_map, Prelude.ℕ, Prelude.List, Prelude.◌++◌, Prelude.Vec, declared.alloc.Global.Global}
use Rattle.qh_write.specs.declared.pieces.Pieces.{Pieces}

-- the concatenated bytes of pieces
abbrev pub bytes_of : List (Vec ℕ Global) → List ℕ
bytes_of pieces = flat_map (λ (piece : Vec ℕ Global). piece.items) pieces

-- the bytes of a text in pieces
abbrev pub bytes_in : Pieces → List ℕ
bytes_in text = bytes_of text.done.items ++ text.last.items
