-- The planes of the facets so far.
use Rattle.qh_block.proofs.InnerPoints.{none_listed, next_listed, all_listed}
use Rattle.qh_model.proofs.Common.{◌∙◌, subst, pos, ◌<ℤ◌}
use Rattle.qh_surface.proofs.LiveFacets.{next_live}
use Rattle.qh_block.proofs.interior.sample.planes_of.Goals as goal

pub loop-facet-init : goal.loop-facet-init
loop-facet-init c =
    let pts = c.args.pts.now in let fs = c.args.mesh.now in
    rw (c.into_iter-facet-iterator.ensures.into_iter_gives ∙ c.live-facet-items.ensures) (rw c.new-planes.ensures.items (none_listed pts fs))

pub plane_of-requires-clause-live : goal.plane_of-requires-clause-live
plane_of-requires-clause-live c =
    let l = c.loop-facet in let f = c.in-Some in
    next_live c.args.mesh.now l.facet-iterator c.next.new.self f.facet l.invariant.live f.ensures.steps

pub loop-facet-preserved : goal.loop-facet-preserved
loop-facet-preserved c =
    rw c.in_ok-push.ensures.items
    (next_listed c.loop-facet.invariant c.in-Some.ensures.steps c.under.result
    (λ p at h. subst (λ n. n <ℤ pos 0) (c.plane_of.ensures p) (c.under.ensures p at h)))

pub returns : goal.returns
returns c = all_listed c.loop-facet.invariant c.in-None.ensures.steps.0
