-- The matrix and the shift of the rows of a map of the program.
use Rattle.{std.specs.Prelude.ℤ, std.specs.Prelude.pos, std.specs.Prelude.◌*ℤ◌, std.specs.Prelude.◌-ℤ◌, qh_model.specs.headline.Vector.Vector}
use Rattle.{qh_model.specs.headline.Vector.dot, qh_lattice.specs.contract.LatticeMaps.Matrix, qh_lattice.specs.declared.row.Row.Row}

-- a vector multiplied by a factor
abbrev pub times : ℤ → Vector → Vector
times k v = record { x = k *ℤ v.x; y = k *ℤ v.y; z = k *ℤ v.z }

-- the coordinate of the image of a point: its offset from the centre, at the scale
abbrev pub along_row : Row → Vector → ℤ
along_row r p = (dot r.by p -ℤ r.centre) *ℤ r.scale

-- the rows at their scales
abbrev pub matrix_of : Row → Row → Row → Matrix
matrix_of a b c = record { first = times a.scale a.by; second = times b.scale b.by; third = times c.scale c.by }

-- the shift that moves the centres to the origin
abbrev pub shift_of : Row → Row → Row → Vector
shift_of a b c = record {
  x = pos 0 -ℤ a.centre *ℤ a.scale;
  y = pos 0 -ℤ b.centre *ℤ b.scale;
  z = pos 0 -ℤ c.centre *ℤ c.scale;
}
