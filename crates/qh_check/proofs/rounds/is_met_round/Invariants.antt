-- The list is met from none of the positions so far.
use Rattle.{std.proofs.Common.ℕ, std.proofs.Common.◌<◌, qh_check.specs.contract.Pieces.IsMetFrom}
use Rattle.qh_check.proofs.rounds.is_met_round.Given as goal

abbrev pub invariant-loop-position : goal.invariant-loop-position
invariant-loop-position l = (k : ℕ) → k < l.position → ¬ (IsMetFrom l.first l.rest l.face k)
