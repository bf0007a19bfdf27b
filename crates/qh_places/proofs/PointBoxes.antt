-- Boxes around points.
use Rattle.qh_model.proofs.Common.{◌≡◌, ℕ, ◌+◌, ◌<◌, ◌≤◌, arith, subst, ◌∙◌, inl, inr, List, length, get_or, get_or_default, ints, cases_lt, ℤ, ◌≤ℤ◌, Vector}
use Rattle.qh_model.proofs.Common.{origin}
use Rattle.qh_places.specs.{declared.boxes.PointBox.PointBox, steps.Boxes.IsWithin, steps.Boxes.IsBoxOf}

pub le_trans : (a b c : ℤ) → a ≤ℤ b → b ≤ℤ c → a ≤ℤ c
le_trans a b c h k = omega (arith, ints)

-- one more point
pub box_grows : (points : List Vector) (k : ℕ) (b c : PointBox) (p : Vector) → IsBoxOf points 0 k b
    → ((q : Vector) → IsWithin b q → IsWithin c q) → k < length points → p ≡ get_or points k p → IsWithin c p → IsBoxOf points 0 (k + 1) c
box_grows points k b c p h f l e own j from to m = elim (cases_lt j k) [
  | inl x ↦ f _ (h j from x m)
  | inr x ↦ (let same : k ≡ j = omega arith in
      subst (λ i. IsWithin c (get_or points i origin)) same (subst (IsWithin c) (e ∙ get_or_default points k p origin l) own))
]

-- all points
pub box_whole : (points : List Vector) (k : ℕ) (b : PointBox) → IsBoxOf points 0 k b → length points ≤ k
    → IsBoxOf points 0 (length points) b
box_whole points k b h l j from to m = h j from (omega arith) m
