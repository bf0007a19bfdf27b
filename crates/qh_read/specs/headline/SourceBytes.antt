-- The bytes that are read from a source in a call.
use Rattle.std.specs.{Prelude.ℕ, Prelude.List, Prelude.Option, Io.KnownBytes.Consumes, Io.KnownBytes.IsAtEnd}

-- some bytes were read from the source, and they have this property; if the source specifies its bytes, they are the next ones
abbrev pub Gives : Option (List ℕ) → Option (List ℕ) → (List ℕ → Type 0) → Type 0
Gives old new P = (given : List ℕ) × Consumes old new given × P given

-- all bytes of the source were read, to the end, and they have this property
abbrev pub GivesAll : Option (List ℕ) → Option (List ℕ) → (List ℕ → Type 0) → Type 0
GivesAll old new P = IsAtEnd new × Gives old new P
