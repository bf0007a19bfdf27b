-- The keys of the facets of the ring so far.
use Rattle.{qh_model.proofs.Common.map, qh_model.proofs.Common.surface_of, qh_surface.specs.contract.Walks.mark_at, qh_laws.specs.contract.Seam.IsRing}
use Rattle.qh_parts.{specs.steps.RingKeys.facet_in, proofs.RingFacets.AreRing}
use Rattle.qh_parts.proofs.seam.marked.Marked.ring_keys.Given as goal

abbrev pub invariant-loop-f : goal.invariant-loop-f
invariant-loop-f l = AreRing (IsRing (surface_of l.self.surface.now.mesh) (mark_at l.self.stay.now))
    (surface_of l.self.surface.now.mesh).live l.f-iterator (map facet_in l.keys.items)
