-- The polygons of the hull are the claimed ones, or others.
use Rattle.{std.proofs.Common.◌≡◌, std.proofs.Common.◌∙◌, std.proofs.Common.sym, qh_check.proofs.Verdicts.same_or_others}
use Rattle.qh_check.proofs.claims.are_polygons_of.Goals as goal

pub returns : goal.returns
returns c = λ set.
    let told : c.in_ok-body.body.polygons ≡ c.deref.result.now = cc in
    same_or_others _ _ c.in_ok-body.body (c.in_ok-body.ensures set) c.args.claim.polygons.now c.are_same_polygons.result
    (λ e. told ∙ c.are_same_polygons.ensures.0 e, λ e. c.are_same_polygons.ensures.1 (sym told ∙ e))
