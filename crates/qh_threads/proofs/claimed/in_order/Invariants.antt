-- The values in the slots are right, and so are the answers that remain.
use Rattle.std.proofs.Common.{◌≡◌, length, All}
use Rattle.std.specs.Vec.Iter.{into_iter_items}
use Rattle.qh_threads.specs.steps.Answers.{AreAnswers, ArePlaced}
use Rattle.qh_threads.proofs.claimed.in_order.Given as goal

abbrev pub invariant-loop-answers : goal.invariant-loop-answers
invariant-loop-answers g l = record {
  len : length l.slots.items ≡ l.fn.count;
  placed : ArePlaced g.F.Fn l.fn.f l.slots.items;
  left : All (AreAnswers g.F.Fn l.fn.f l.fn.count) (into_iter_items l.answers-iterator);
}
