-- The faces so far are contributed, and so are those in the remaining answers.
use Rattle.qh_model.proofs.Common.{All, length, IfOk, IfSome}
use Rattle.qh_parts.specs.steps.Given.{AreGivenOf, IsContribution}
use Rattle.qh_parts.proofs.given.all_given.Given as goal

abbrev pub invariant-loop-answer : goal.invariant-loop-answer
invariant-loop-answer l = AreGivenOf l.set.pts.now l.set.shared.now l.set.parts.now l.faces l.gone.items
    × All (λ r. IfOk r (λ found. IfSome found (IsContribution l.set.pts.now l.set.shared.now l.set.parts.now))) l.made.items

abbrev pub decreases-loop-answer : goal.decreases-loop-answer
decreases-loop-answer l = length l.made.items
