-- The marked ids so far.
use Rattle.{std.proofs.Common.◌≡◌, std.proofs.Common.true, qh_surface.specs.contract.Walks.mark_at, qh_parts_join.proofs.LeftIds.AreLeftOf}
use Rattle.qh_parts_join.proofs.parts.marked.Given as goal

abbrev pub invariant-loop-id : goal.invariant-loop-id
invariant-loop-id l = AreLeftOf (λ i. ¬ (mark_at l.marks i ≡ true)) l.ids l.found.items l.id-index
