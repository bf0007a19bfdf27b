-- The greatest sizes of a difference and a cross product of points. They follow from the limit of coordinates.
use Rattle.std.specs.Prelude.{ℕ, ◌*◌, ◌≤◌, unsigned_abs}
use Rattle.qh_model.specs.{declared.limits.TheConstants.COORDINATE_LIMIT, headline.Vector.Vector}

-- the greatest absolute value of a difference of two coordinates
abbrev pub difference_limit : ℕ
difference_limit = 2 * COORDINATE_LIMIT

-- the greatest absolute value of a component of a cross product of two differences from one point: twice the area of a triangle in a square of that side
abbrev pub normal_limit : ℕ
normal_limit = difference_limit * difference_limit

-- each component is in the range of a cross product
pub record IsNormal (v : Vector) : Type 0 where
  pub x : unsigned_abs v.x ≤ normal_limit
  pub y : unsigned_abs v.y ≤ normal_limit
  pub z : unsigned_abs v.z ≤ normal_limit
