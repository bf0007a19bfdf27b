use Rattle.qh_model.proofs.Common.{◌≡◌, rules, FitsSigned, ◌∙◌, refl, to_z-of_z, cross, vol, Vector, dot, minus, w128}
use Rattle.qh_pred.proofs.predicates.vol.Goals as goal

-- the volume is the scalar product of the normal and the vector to the fourth point
vol_from : (a b c d n e : Vector) → n ≡ cross a b c → e ≡ minus d a → dot n e ≡ vol a b c d
unfolding vol cross
vol_from a b c d n e h k = rw (h, k) refl

pub returns : goal.returns
returns c =
    let fits : FitsSigned w128 c.dot.result = search rules in
    to_z-of_z _ _ fits ∙ c.dot.ensures.value ∙ vol_from _ _ _ _ _ _ c.product.ensures (c.components.ensures ∙ c.between.ensures.value)
