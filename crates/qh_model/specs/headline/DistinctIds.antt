-- The distinct points of a list: of equal points the lowest id represents all.
use Rattle.std.specs.Prelude.{ℕ, ◌≢◌, ◌<◌, ◌↔◌, List, length}
use Rattle.std.specs.List.Sorted.{IsStrictlyIncreasing}
use Rattle.qh_model.specs.headline.{Vector.Vector, Sets.In, Predicates.place}

-- i is the id of a point, and no lower id has the same point
abbrev pub IsDistinctId : List Vector → ℕ → Type 0
IsDistinctId pts i = (i < length pts) × ((j : ℕ) → j < i → place pts j ≢ place pts i)

-- the rising list of the distinct ids
pub record AreDistinctIds (pts : List Vector) (ids : List ℕ) : Type 0 where
  pub rising : IsStrictlyIncreasing ids
  pub members : (i : ℕ) → In i ids ↔ IsDistinctId pts i
