-- The ids so far that are not in the other list.
use Rattle.{qh_model.specs.headline.Sets.In, qh_parts_join.proofs.LeftIds.AreLeftOf}
use Rattle.qh_parts_join.proofs.parts.without.Given as goal

abbrev pub invariant-loop-id : goal.invariant-loop-id
invariant-loop-id l = AreLeftOf (λ i. In i l.others) l.ids l.left.items l.id-index
