-- The parts so far are parts, and so are those in the remaining answers.
use Rattle.qh_model.proofs.Common.{All, length, IfOk, IfSome}
use Rattle.qh_parts_join.specs.contract.Parts.{IsPartOf}
use Rattle.qh_parts.proofs.pieces.all_parts.Given as goal

abbrev pub invariant-loop-answer : goal.invariant-loop-answer
invariant-loop-answer l = All (IsPartOf l.pieces.pts.now l.pieces.shared.now) l.parts.items
    × All (λ r. IfOk r (λ found. IfSome found (IsPartOf l.pieces.pts.now l.pieces.shared.now))) l.made.items

abbrev pub decreases-loop-answer : goal.decreases-loop-answer
decreases-loop-answer l = length l.made.items
