-- The facets so far wait if they have an outside set, and there is room for the others.
use Rattle.qh_model.proofs.Common.{◌+◌, ◌≤◌, take, length, vec_len, vec_capacity}
use Rattle.qh_surface.proofs.runs.WaitingFacets.{AreQueued}
use Rattle.qh_surface.proofs.quickhull.waiting_facets.enqueue.Given as goal

abbrev pub invariant-loop-facet : goal.invariant-loop-facet
invariant-loop-facet l = record {
  queued : AreQueued l.sets l.initial.pending.items l.pending.items (take l.facet-index l.made);
  room : vec_len l.pending + length l.made ≤ vec_capacity l.pending + l.facet-index;
}
