-- Each answer so far is that of a call.
use Rattle.std.proofs.Common.{All}
use Rattle.qh_threads.specs.steps.Answers.{IsAnswer}
use Rattle.qh_threads.proofs.claimed.claim.Given as goal

abbrev pub invariant-loop : goal.invariant-loop
invariant-loop g l = All (IsAnswer g.F.Fn l.fn.f l.fn.count) l.answers.items
