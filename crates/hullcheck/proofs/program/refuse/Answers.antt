-- The device received the line of the fault.
use Rattle.std.proofs.Common.{refl}
use Rattle.hullcheck.specs.contract.FaultTexts.{fault_text}
use Rattle.hullcheck.proofs.program.refuse.Goals as goal

pub returns : goal.returns
returns g c = ((c.line.result, c.line.ensures.went (fault_text c.args.fault) refl, c.line.ensures.count), c.status.ensures)
