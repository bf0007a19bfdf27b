-- One more wedge of the ring.
use Rattle.qh_model.proofs.{Common.sym, Common.subst, Common.◌<◌, Common.length, Common.All-weaker, Members.All-In}
use Rattle.{qh_mesh.specs.contract.Replacement.IsLive, qh_surface.specs.steps.Runs.IsPlaneOf, qh_surface.specs.steps.Cones.IsWedge}
use Rattle.qh_surface.{specs.steps.Cones.apex_of, proofs.runs.ConeRings.fan_next, proofs.runs.ConeRings.read_wedge, proofs.runs.ConeRings.each_more}
use Rattle.qh_surface.proofs.quickhull.cone_ring.go_round.Goals as goal

pub first_facet-facet-requires-clause-planes : goal.first_facet-facet-requires-clause-planes
first_facet-facet-requires-clause-planes c = All-weaker (IsPlaneOf _ _ _) (λ f. f < length c.args.planes.now) (λ f h. h.0) c.args.made.now c.requires.planes

pub wedge_of-requires-clause-plane : goal.wedge_of-requires-clause-plane
wedge_of-requires-clause-plane c =
    (All-In (IsPlaneOf c.args.pts.now c.args.mesh.now c.args.planes.now) c.args.made.now c.loop.facet c.requires.planes c.loop.invariant.named).0

pub wedge_of-requires-clause-live : goal.wedge_of-requires-clause-live
wedge_of-requires-clause-live c = All-In (IsLive c.args.mesh.now) c.args.made.now c.loop.facet c.requires.live c.loop.invariant.named

pub next_facet-facet-requires : goal.next_facet-facet-requires
next_facet-facet-requires c = All-In (IsLive c.args.mesh.now) c.args.made.now c.loop.facet c.requires.live c.loop.invariant.named

pub loop-preserved : goal.loop-preserved
loop-preserved c =
    let e = c.wedge_of.ensures in let r = c.requires in let i = c.loop.invariant in
    let ps = c.args.planes.now in let made = c.args.made.now in let apex = apex_of c.args.pts.now c.args.mesh.now made in record {
      named = fan_next c.loop.facet r.fan c.next_facet-facet.ensures i.named;
      wedges = rw c.in_ok-push.ensures.items (each_more (IsWedge ps made apex) c.loop.wedges.items c.wedge_of.result i.wedges
          (subst (IsWedge ps made apex) (λ t. record { facet = sym e.facet t; plane = sym e.plane t; from = sym e.from t; to = sym e.to t })
          (read_wedge c.args.pts.now c.args.mesh.now ps made r.live r.below r.planes r.fan c.loop.facet i.named)));
    }
