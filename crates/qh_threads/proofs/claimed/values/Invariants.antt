-- The values so far were returned by the calls, and the values in the slots are right.
use Rattle.std.proofs.Common.{◌≡◌, length}
use Rattle.std.specs.Fork.{GivesEach}
use Rattle.qh_threads.specs.steps.Answers.{ArePlaced}
use Rattle.qh_threads.proofs.claimed.values.Given as goal

abbrev pub invariant-loop-index : goal.invariant-loop-index
invariant-loop-index g l = record {
  slots : length l.slots.items ≡ length l.fn.slots.items;
  placed : ArePlaced g.F.Fn l.fn.f l.slots.items;
  count : length l.values.items ≡ l.index;
  each : GivesEach g.F.Fn l.fn.f l.index l.values.items;
}
