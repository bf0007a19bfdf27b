use Rattle.std.proofs.Common.{arith, subst}
use Rattle.qh_command.specs.steps.Matches.{IsOutsFault}
use Rattle.qh_command.proofs.CommandLines.{no_outs}
use Rattle.qh_command.proofs.command_line.settings_from.Goals as goal

pub returns-in_default-clause-fault : goal.returns-in_default-clause-fault
returns-in_default-clause-fault c = λ s h r. c.in_default.ensures.none s.workers (omega (arith, r.0.1)) h.workers

pub returns-in_default-number-clause-fault : goal.returns-in_default-number-clause-fault
returns-in_default-number-clause-fault c = λ s h r. c.in_default-number.ensures.none s.block (omega (arith, r.1.1)) h.block

pub returns-in-Err-clause-fault : goal.returns-in-Err-clause-fault
returns-in-Err-clause-fault c = no_outs _ c.in-Err.fault (subst (λ t. IsOutsFault t c.in-Err.fault) c.get_strs.ensures c.in-Err.ensures.fault)
