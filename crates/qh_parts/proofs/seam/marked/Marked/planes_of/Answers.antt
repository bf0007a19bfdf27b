-- One more facet has its plane.
use Rattle.qh_model.proofs.Common.{◌<◌, below_more, length, subst, arith, ◌∙◌, get_or_default_zero, surface_of, place}
use Rattle.{qh_surface.specs.contract.NamedMeshes.named, qh_parts.specs.steps.Witnesses.HasPlane, qh_places.proofs.Listed.each_listed}
use Rattle.qh_parts.proofs.{RingFacets.plane_among_more, RingFacets.plane_at_end, StayingParts.named_there}
use Rattle.qh_parts.proofs.seam.marked.Marked.planes_of.Goals as goal

pub triangle-requires : goal.triangle-requires
triangle-requires c =
    let within : c.loop-f.f-index < length c.args.facets.now = omega arith in
    c.requires c.f-item.result (named_there c.args.facets.now c.loop-f.f-index c.f-item.result c.f-item.is within)

pub loop-f-preserved : goal.loop-f-preserved
loop-f-preserved c =
    let at = place c.args.self.pts.now in let m = surface_of (named c.args.self.surface.now) in
    let within : c.loop-f.f-index < length c.args.facets.now = omega arith in
    let corners = c.triangle.ensures in
    rw c.in_ok-push.ensures.items
    (below_more _ _ (λ n h. plane_among_more at m _ _ _ (c.loop-f.invariant n h))
    (subst (HasPlane at m _) (c.f-item.is ∙ get_or_default_zero c.args.facets.now c.loop-f.f-index c.f-item.result within)
    (plane_at_end at m _ _ c.f-item.result (rw (corners.a, corners.b, corners.c) at c.plane.ensures))))

pub returns : goal.returns
returns c = λ f i.
    each_listed (λ f. HasPlane (place c.args.self.pts.now) (surface_of (named c.args.self.surface.now)) c.loop-f.planes.items f)
    c.args.facets.now c.loop-f.f-index (omega arith) c.loop-f.invariant f i
