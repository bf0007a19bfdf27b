use Rattle.std.proofs.Common.{◌≡◌, ◌-◌, false}
use Rattle.qh_board.specs.contract.Tokens.{IsOf}
use Rattle.qh_tests_run.proofs.tests.board.passes.work_but.Given as goal

abbrev pub invariant-loop-over : goal.invariant-loop-over
invariant-loop-over l = record {
  board : IsOf l.board l.pass;
  going : l.pass.pass.over ≡ false;
}

-- a claim finds more claims than the one before
abbrev pub decreases-loop-over : goal.decreases-loop-over
decreases-loop-over l = l.board.setup.blocks - l.pass.pass.claims
