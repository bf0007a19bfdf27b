use Rattle.qh_run.specs.steps.Turns.{IsAnswerOf, SinceClaim, answered, answered_node}
use Rattle.qh_run.proofs.worker.climb.Given as goal

-- the result still belongs to this pass
abbrev pub invariant-up : goal.invariant-up
invariant-up g l = IsAnswerOf g.S.Spans.right l.board l.answer × SinceClaim (answered l.initial.answer) (answered l.answer)

abbrev pub decreases-up : goal.decreases-up
decreases-up g l = answered_node l.answer
