-- The invariant of the type of a point: a vector within the limit, which can be data of the program.
use Rattle.qh_model.specs.headline.{Vector.Vector, Limits.IsCoordinate}
use Rattle.std.specs.Prelude.{ℤ, refl}
use Rattle.std.specs.Coded.{Coded, code_by, coded×, coded_ℤ}

-- each coordinate is in range
pub record IsPlace (p : Vector) : Type 0 where
  pub x : IsCoordinate p.x
  pub y : IsCoordinate p.y
  pub z : IsCoordinate p.z

-- a vector as data of the program
abbrev pub vector_code : Coded Vector
vector_code = code_by (ℤ × (ℤ × ℤ)) (coded× coded_ℤ (coded× coded_ℤ coded_ℤ)) (λ p. (p.x, (p.y, p.z)))
    (λ t. record { x = t.0; y = t.1.0; z = t.1.1 }) (λ _. refl)
