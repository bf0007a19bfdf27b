-- The device of errors received the line of the fault.
use Rattle.std.proofs.Common.{refl}
use Rattle.qh_serve.specs.contract.FaultLines.{fault_line}
use Rattle.qconvex.proofs.program.end.Goals as goal

pub returns-in-Err-clause-line : goal.returns-in-Err-clause-line
returns-in-Err-clause-line g c =
    rw c.in-Err.is (c.line.result, c.line.ensures.went (fault_line c.in-Err.fault) refl, c.line.ensures.count)
