-- The greatest sizes of differences of points and offsets of planes.
use Rattle.std.specs.Prelude.{ℕ, ◌*◌, ◌≤◌, unsigned_abs}
use Rattle.qh_model.specs.headline.Vector.{Vector}
use Rattle.qh_pred.specs.contract.Bounds.{difference_limit, normal_limit}

-- a limit of the absolute value of a scalar product of two vectors within `normal_limit`: a sum of three products
abbrev pub offset_limit : ℕ
offset_limit = 3 * (normal_limit * normal_limit)

-- each component is in the range of a difference of points
pub record IsDifference (v : Vector) : Type 0 where
  pub x : unsigned_abs v.x ≤ difference_limit
  pub y : unsigned_abs v.y ≤ difference_limit
  pub z : unsigned_abs v.z ≤ difference_limit
