-- Different vectors differ along one of the three axes.
use Rattle.qh_model.proofs.Common.{◌≡◌, ◌≢◌, arith, ints, pos, ℤ_discrete, Vector, dot}
use Rattle.qh_model.proofs.algebra.VectorIdentities.{vector_path}

-- different vectors differ along an axis
pub record Differ (p q : Vector) : Type 0 where
  pub axis : Vector
  pub differs : dot axis p ≢ dot axis q

-- the axis along which they differ
pub differ : (p q : Vector) → p ≢ q → Differ p q
differ p q n = along (ℤ_discrete p.x q.x) (ℤ_discrete p.y q.y) (ℤ_discrete p.z q.z)
  where
    along : Dec (p.x ≡ q.x) → Dec (p.y ≡ q.y) → Dec (p.z ≡ q.z) → Differ p q
    along (no k) d e = record { axis = record { x = pos 1; y = pos 0; z = pos 0 }; differs = λ h. k (omega (arith, ints, h)) }
    along (yes x) (no k) e = record { axis = record { x = pos 0; y = pos 1; z = pos 0 }; differs = λ h. k (omega (arith, ints, h)) }
    along (yes x) (yes y) (no k) = record { axis = record { x = pos 0; y = pos 0; z = pos 1 }; differs = λ h. k (omega (arith, ints, h)) }
    along (yes x) (yes y) (yes z) = absurd (n (vector_path p q x y z))
