-- The ids of a set that are kept if the ids with points in a region are removed. This project's own.
use Rattle.std.specs.{Prelude.ℕ, Prelude.List, List.Sorted.IsStrictlyIncreasing}
use Rattle.qh_model.specs.headline.{Vector.Vector, Predicates.place, Sets.In, Sets.Members, Extreme.Extreme}

-- the point of no extreme id of the set is held
abbrev pub HasNoExtreme : List Vector → List ℕ → (Vector → Type 0) → Type 0
HasNoExtreme pts ids held = (i : ℕ) → In i ids → held (place pts i) → ¬ (Extreme (place pts) (Members ids) i)

-- the ids kept of some ids of a set, in order: they include all that are extreme in the set
pub record IsKept (pts : List Vector) (all ids kept : List ℕ) : Type 0 where
  pub rising : IsStrictlyIncreasing ids → IsStrictlyIncreasing kept
  pub within : (i : ℕ) → In i kept → In i ids
  pub extremes : (i : ℕ) → In i ids → Extreme (place pts) (Members all) i → In i kept

-- the ids are kept in this way for each set that has the ids and has no extreme id whose point is held
pub record KeepsExtremes (pts : List Vector) (held : Vector → Type 0) (ids kept : List ℕ) : Type 0 where
  pub each : (all : List ℕ) → ((i : ℕ) → In i ids → In i all) → HasNoExtreme pts all held → IsKept pts all ids kept
