-- The invariant of a plane of the program.
use Rattle.std.specs.Prelude.{ℤ, ◌≤◌, unsigned_abs, refl}
use Rattle.std.specs.Coded.{Coded, code_by, coded×, coded_ℤ}
use Rattle.qh_model.specs.{contract.Places.vector_code, headline.Vector.Vector}
use Rattle.qh_pred.specs.{contract.Bounds.IsNormal, contract.Planes.PlaneValue, steps.Differences.offset_limit}

-- the plane is within the limits of normals and offsets
pub record IsPlane (plane : PlaneValue) : Type 0 where
  pub normal : IsNormal plane.normal
  pub offset : unsigned_abs plane.offset ≤ offset_limit

-- a plane as data of the program
abbrev pub plane_code : Coded PlaneValue
plane_code = code_by (Vector × ℤ) (coded× vector_code coded_ℤ) (λ p. (p.normal, p.offset)) (λ t. record { normal = t.0; offset = t.1 }) (λ _. refl)
