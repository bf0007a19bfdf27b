use Rattle.qh_model.proofs.Common.{◌≡◌, ◌+◌, false, length, All}
use Rattle.qh_board.specs.contract.Tokens.{IsOf}
use Rattle.qh_tests_run.proofs.tests.board.passes.work_all.Given as goal

abbrev pub invariant-loop-pass : goal.invariant-loop-pass
invariant-loop-pass l = record {
  board : All (IsOf l.board) l.passes.items;
  going : All (λ p. p.pass.over ≡ false) l.passes.items;
  count : length l.lefts.items + length l.passes.items ≡ length l.fn.passes.items;
  lefts : All (IsOf l.board) l.lefts.items;
}

abbrev pub decreases-loop-pass : goal.decreases-loop-pass
decreases-loop-pass l = length l.passes.items
