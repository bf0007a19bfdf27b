-- Ids as indices of points, and sets of them.
use Rattle.std.specs.Prelude.{ℕ, ◌≡◌, ◌<◌, List, All, length}
use Rattle.std.specs.List.Sorted.{IsStrictlyIncreasing}
use Rattle.qh_model.specs.headline.{Vector.Vector, Sets.In, Predicates.place}

-- each of the ids is the index of a point
abbrev pub AreIndices : List Vector → List ℕ → Type 0
AreIndices pts ids = All (λ i. i < length pts) ids

-- different ids of the set have different points
abbrev pub HasDistinctPoints : (ℕ → Vector) → (ℕ → Type 0) → Type 0
HasDistinctPoints at A = (i j : ℕ) → A i → A j → at i ≡ at j → i ≡ j

-- rising ids of distinct points
pub record IsIdSet (pts : List Vector) (ids : List ℕ) : Type 0 where
  pub rising : IsStrictlyIncreasing ids
  pub distinct : HasDistinctPoints (place pts) (λ i. In i ids)
