use Rattle.qh_model.proofs.Common.{subst, ◌∙◌, IsHull}
use Rattle.qconvex_c.proofs.given_hull.given_hull.Goals as goal

pub returns-clause-hull : goal.returns-clause-hull
returns-clause-hull c =
    c.in_ok-flat_hull.ensures c.args.points.now
    (subst (λ v. IsHull v c.in_ok-hull.hull) (c.deref.ensures.value ∙ c.in_ok-pts.ensures) c.in_ok-hull.ensures)
