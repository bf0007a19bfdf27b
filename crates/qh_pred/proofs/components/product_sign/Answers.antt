use Rattle.qh_model.proofs.Common.{◌∙◌, ap, FitsSigned, to_z-of_z, pos, ◌<ℤ◌, w64}
use Rattle.qh_pred.proofs.components.product_sign.Goals as goal
use Rattle.std.proofs.lemmas.Cmp.{int_ranked}
use Rattle.qh_pred.specs.contract.Turns.{sign}
use Rattle.qh_pred.proofs.Turns.{sign-mul}

pub returns-in-Greater : goal.returns-in-Greater
returns-in-Greater c =
    let a_fits : FitsSigned w64 c.args.a = c.ranges.a in
    let b_fits : FitsSigned w64 c.args.b = c.ranges.b in
    let positive : pos 0 <ℤ c.args.a = int_ranked c.args.a (pos 0) _ (c.in-Greater.ensures ∙ ap sign (to_z-of_z _ _ a_fits)) in
    c.cmp-in-Greater.ensures ∙ ap sign (to_z-of_z _ _ b_fits) ∙ sign-mul c.args.a c.args.b positive
