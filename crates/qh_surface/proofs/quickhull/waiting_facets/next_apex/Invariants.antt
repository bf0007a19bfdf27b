-- The skipped facets had no outside set.
use Rattle.std.proofs.Common.{All, ◌<◌, ◌≡◌, length}
use Rattle.qh_surface.specs.steps.Runs.{RunState, with_waiting, IsUnderWay}
use Rattle.qh_surface.proofs.quickhull.waiting_facets.next_apex.Given as goal

abbrev pub invariant-loop-pending : goal.invariant-loop-pending
invariant-loop-pending l = record {
  within : All (λ f. f < length l.sets.sets) l.pending.items;
  same : l.sets ≡ l.initial.sets;
  under_way : (s : RunState) → IsUnderWay (with_waiting s l.initial.sets l.initial.pending.items)
      → IsUnderWay (with_waiting s l.sets l.pending.items);
}

abbrev pub decreases-loop-pending : goal.decreases-loop-pending
decreases-loop-pending l = length l.pending.items
