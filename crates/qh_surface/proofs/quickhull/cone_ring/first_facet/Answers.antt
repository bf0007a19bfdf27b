-- Each facet on the way round the cone is a new one.
use Rattle.std.proofs.Common.{◌<◌, length}
use Rattle.{qh_model.proofs.Members.All-In, qh_mesh.specs.contract.Replacement.IsLive, qh_surface.proofs.runs.ConeRings.fan_next}
use Rattle.qh_surface.proofs.quickhull.cone_ring.first_facet.Goals as goal

pub next_facet-requires : goal.next_facet-requires
next_facet-requires c = All-In (IsLive c.args.mesh.now) c.args.made.now c.loop.before.facet c.requires.live c.loop.invariant

pub wedge_of-wedge-requires-clause-live : goal.wedge_of-wedge-requires-clause-live
wedge_of-wedge-requires-clause-live c = All-In (IsLive c.args.mesh.now) c.args.made.now _ c.requires.live
    (fan_next c.loop.before.facet c.requires.fan c.next_facet.ensures c.loop.invariant)

pub wedge_of-wedge-requires-clause-plane : goal.wedge_of-wedge-requires-clause-plane
wedge_of-wedge-requires-clause-plane c = All-In (λ f. f < length c.args.planes.now) c.args.made.now _ c.requires.planes
    (fan_next c.loop.before.facet c.requires.fan c.next_facet.ensures c.loop.invariant)

pub returns-then-height-lt0 : goal.returns-then-height-lt0
returns-then-height-lt0 c = rw c.wedge_of-wedge.ensures.facet (fan_next c.loop.before.facet c.requires.fan c.next_facet.ensures c.loop.invariant)

pub loop-preserved : goal.loop-preserved
loop-preserved c = rw c.wedge_of-wedge.ensures.facet (fan_next c.loop.before.facet c.requires.fan c.next_facet.ensures c.loop.invariant)
