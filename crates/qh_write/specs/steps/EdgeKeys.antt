-- The numbers of pairs of ids, by which the writer counts edges.
use Rattle.std.specs.Prelude.{ℕ, ◌≡◌, ◌<◌, ◌==◌, List, [], ◌∷◌, ◌++◌, if◌then◌else◌}
use Rattle.std.specs.List.{flat_map, AllByRecursion}
use Rattle.qh_model.specs.{contract.Halves.packed, declared.keys.packed.TheConstants.HALF_ROOM, headline.Fan.pairs_round}

-- the number of a pair of two ids; a pair of equal ids has none
abbrev pub pair_key : ℕ × ℕ → List ℕ
pair_key (low, high) = if low == high then [] else packed low high ∷ []

-- the higher id has room in the number
abbrev pub HasRoom : ℕ × ℕ → Type 0
HasRoom p = p.1 < HALF_ROOM

-- the numbers of these pairs were added, and determine the pairs
pub record AddsPairs (pairs : List (ℕ × ℕ)) (old new : List ℕ) : Type 0 where
  pub keys : new ≡ old ++ flat_map pair_key pairs
  pub told : AllByRecursion HasRoom pairs

-- the pairs of neighbours of faces
abbrev pub pairs_of : List (List ℕ) → List (ℕ × ℕ)
pairs_of faces = flat_map pairs_round faces

-- after the remaining pairs are added, all have been added
abbrev pub Completes : List (ℕ × ℕ) → List (ℕ × ℕ) → List ℕ → List ℕ → Type 0
Completes left all now start = (end : List ℕ) → AddsPairs left now end → AddsPairs all start end
