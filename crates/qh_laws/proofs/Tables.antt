-- Examples in a table: the first entry of each row, and the value of a function at it.
use Rattle.std.proofs.Common.{◌≡◌, List, map}

abbrev pub Shows : {A B : Type 0} → (A → B) → List (A × B) → Type 0
Shows f rows = map (λ r. f r.0) rows ≡ map (λ r. r.1) rows
