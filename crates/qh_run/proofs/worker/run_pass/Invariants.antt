use Rattle.std.proofs.Common.{◌≡◌, ◌-◌, false}
use Rattle.qh_board.specs.contract.Tokens.{IsOf}
use Rattle.qh_run.proofs.worker.run_pass.Given as goal

abbrev pub invariant-claims : goal.invariant-claims
invariant-claims g l = record {
  board : IsOf l.board l.pass;
  going : l.pass.pass.over ≡ false;
  number : l.pass.pass.number ≡ l.fn.pass.pass.number;
}

-- a claim finds more claims than the one before
abbrev pub decreases-claims : goal.decreases-claims
decreases-claims g l = l.board.setup.blocks - l.pass.pass.claims
