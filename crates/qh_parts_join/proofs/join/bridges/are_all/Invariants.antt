-- The answers so far are true.
use Rattle.qh_model.proofs.Common.{◌≡◌, true, take, Ok, All}
use Rattle.qh_parts_join.proofs.join.bridges.are_all.Given as goal

abbrev pub invariant-loop-answer : goal.invariant-loop-answer
invariant-loop-answer l = All (λ a. a ≡ Ok true) (take l.answer-index l.answers)
