-- Whole vectors of space, of any size: points, differences of points and normals.
use Rattle.std.specs.Prelude.{ℤ, pos, ◌+ℤ◌, ◌-ℤ◌, ◌*ℤ◌}

pub record Vector : Type 0 where
  pub x : ℤ
  pub y : ℤ
  pub z : ℤ

abbrev pub origin : Vector
origin = record { x = pos 0; y = pos 0; z = pos 0 }

-- p - q
abbrev pub minus : Vector → Vector → Vector
minus p q = record { x = p.x -ℤ q.x; y = p.y -ℤ q.y; z = p.z -ℤ q.z }

-- the cross product p x q
abbrev pub cross_product : Vector → Vector → Vector
cross_product p q = record { x = p.y *ℤ q.z -ℤ p.z *ℤ q.y; y = p.z *ℤ q.x -ℤ p.x *ℤ q.z; z = p.x *ℤ q.y -ℤ p.y *ℤ q.x }

-- the scalar product p . q
abbrev pub dot : Vector → Vector → ℤ
dot p q = p.x *ℤ q.x +ℤ p.y *ℤ q.y +ℤ p.z *ℤ q.z
