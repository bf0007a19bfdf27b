-- Planes as a normal and an offset, so that a point costs one scalar product.
-- Source: Barber, Dobkin and Huhdanpaa 1996 (a facet keeps its hyperplane as a normal and an offset).
use Rattle.std.specs.Prelude.{ℤ, ◌-ℤ◌}
use Rattle.qh_model.specs.headline.Vector.{Vector, dot}

-- the points whose product with the normal is the offset
pub record PlaneValue : Type 0 where
  pub normal : Vector
  pub offset : ℤ

-- the height of a point above the plane, times the length of the normal
abbrev pub height : PlaneValue → Vector → ℤ
height plane p = dot plane.normal p -ℤ plane.offset
