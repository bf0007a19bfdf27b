-- The invariant of the type of a hull.
use Rattle.std.specs.{Prelude.ℕ, Prelude.List, List.Sorted.IsStrictlyIncreasing}
use Rattle.qh_model.specs.headline.Sets.{In}

-- the extreme ids rise, and the polygons have no other ids
pub record IsBodyInOrder (extremes : List ℕ) (polygons : List (List ℕ)) : Type 0 where
  pub rising : IsStrictlyIncreasing extremes
  pub named : (q : List ℕ) → In q polygons → (i : ℕ) → In i q → In i extremes
