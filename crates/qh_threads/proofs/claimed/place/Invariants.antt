-- The values in the slots are right, and so are the answers that remain.
use Rattle.std.proofs.Common.{◌≡◌, length, All}
use Rattle.std.specs.Vec.Iter.{into_iter_items}
use Rattle.qh_threads.specs.steps.Answers.{IsAnswer, ArePlaced}
use Rattle.qh_threads.proofs.claimed.place.Given as goal

abbrev pub invariant-loop-answer : goal.invariant-loop-answer
invariant-loop-answer g l = record {
  len : length l.slots.items ≡ length l.fn.slots.items;
  placed : ArePlaced g.F.Fn l.fn.f l.slots.items;
  left : All (IsAnswer g.F.Fn l.fn.f (length l.fn.slots.items)) (into_iter_items l.answer-iterator);
}
