-- The conjunction of tests.
use Rattle.qh_model.proofs.Common.{◌&&◌, Bool, true, false, IsTrue, refl, ◌↔◌}

-- the conjunction of two tests
pub both : {P Q : Type 0} (a b : Bool) → (IsTrue a ↔ P) → (IsTrue b ↔ Q) → IsTrue (a && b) ↔ (P × Q)
both true b p q = (λ t. (p.0 refl, q.0 t), λ h. q.1 h.1)
both false b p q = (λ t. cc, λ h. p.1 h.0)
