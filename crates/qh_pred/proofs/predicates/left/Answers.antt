use Rattle.qh_model.proofs.Common.{◌∙◌, ap, Vector}
use Rattle.qh_pred.specs.contract.Turns.{sign, first_product}
use Rattle.qh_pred.proofs.Turns.{turn_sign}
use Rattle.qh_pred.proofs.predicates.left.Goals as goal

pub returns-clause-turn : goal.returns-clause-turn
returns-clause-turn c = λ h.
    c.first_sign.ensures ∙ ap (λ (m : Vector). sign (first_product m c.product.result)) c.components.ensures
    ∙ ap (λ (m : Vector). sign (first_product c.args.n.now m)) c.product.ensures
    ∙ turn_sign c.args.n.now c.args.u c.args.v c.args.w h
