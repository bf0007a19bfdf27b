-- Boxes around points.
use Rattle.std.specs.Prelude.{ℕ, ◌<◌, ◌≤◌, List, length, slice_index_or}
use Rattle.qh_model.specs.headline.Vector.{Vector, origin}
use Rattle.{qh_pred.specs.contract.Corners.IsInBox, qh_places.specs.declared.boxes.PointBox.PointBox}

-- a point between two opposite corners of a box
abbrev pub IsWithin : PointBox → Vector → Type 0
IsWithin b p = IsInBox b.low b.high p

-- the points in a range of positions lie in the box
abbrev pub IsBoxOf : List Vector → ℕ → ℕ → PointBox → Type 0
IsBoxOf points from to b = (k : ℕ) → from ≤ k → k < to → k < length points → IsWithin b (slice_index_or points k origin)
