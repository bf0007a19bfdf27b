-- One more facet is listed, or is not in the ring.
use Rattle.{qh_model.proofs.surfaces.Stored.live_is_marked, qh_parts.proofs.RingFacets.ring_starts, qh_parts.proofs.RingFacets.ring_goes}
use Rattle.{qh_parts.proofs.RingsBefore.ring_before, qh_parts.specs.steps.RingKeys.facet_in, qh_parts_join.proofs.Asked.next_live}
use Rattle.{qh_parts_join.proofs.Asked.asking_ends, qh_surface.specs.contract.Walks.mark_at, std.proofs.Common.◌∙◌, std.proofs.Common.ap, std.proofs.Common.map}
use Rattle.qh_parts.proofs.seam.marked.Marked.ring_keys.Goals as goal

pub loop-f-init : goal.loop-f-init
loop-f-init c = ring_starts _ _ _ _ (c.into_iter-f-iterator.ensures.into_iter_gives ∙ c.live-f-items.ensures) (ap (map facet_in) c.new-keys.ensures.items)

pub list_ring-requires : goal.list_ring-requires
list_ring-requires c = (live_is_marked c.args.self.surface.now.mesh c.in-Some.f).0 (next_live _ _ _ _ _ c.loop-f.invariant.all c.in-Some.ensures.steps)

pub loop-f-preserved : goal.loop-f-preserved
loop-f-preserved c = ring_goes _ _ _ _ facet_in c.loop-f.keys.items _ c.in-Some.f c.loop-f.invariant c.in-Some.ensures.steps c.in_ok-list_ring.ensures

pub returns-clause-all : goal.returns-clause-all
returns-clause-all c = λ f r. (let before = ring_before c.args.self.surface.now (mark_at c.args.self.stay.now) f r in
    asking_ends _ _ _ c.loop-f.invariant.all c.in-None.ensures.steps.0 f before.live before)

pub returns-clause-live : goal.returns-clause-live
returns-clause-live c = λ f m. (live_is_marked c.args.self.surface.now.mesh f).0 (c.loop-f.invariant.only f m)
