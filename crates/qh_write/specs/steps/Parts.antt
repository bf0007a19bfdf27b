-- Parts of a text, each made by its own thread.
use Rattle.std.specs.Prelude.{ℕ, ◌≡◌, List, Result, Ok, Vec, map}
use Rattle.{std.specs.declared.alloc.Global.Global, std.specs.declared.alloc.AllocError.AllocError, qh_write.specs.contract.Pieces.bytes_of}

-- if all parts were made, these are their concatenated bytes
abbrev pub AreParts : List (Result (Vec ℕ Global) AllocError) → List ℕ → Type 0
AreParts parts bytes = (pieces : List (Vec ℕ Global)) → map Ok pieces ≡ parts → bytes_of pieces ≡ bytes
