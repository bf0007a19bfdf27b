-- The output received the text of the answer.
use Rattle.std.proofs.Common.{refl}
use Rattle.hullcheck.specs.contract.Answering.{answer_text}
use Rattle.hullcheck.proofs.program.end.Goals as goal

pub returns-in-Ok-line : goal.returns-in-Ok-line
returns-in-Ok-line g c = rw c.in-Ok.is
    (c.line.result, c.line.ensures.went (answer_text c.in-Ok.answer) refl, c.line.ensures.count, rw c.in-Ok-line.is (c.status_of.ensures, refl))

pub returns-in-Err-line : goal.returns-in-Err-line
returns-in-Err-line g c = rw c.in-Ok.is
    (c.line.result, c.line.ensures.went (answer_text c.in-Ok.answer) refl, c.line.ensures.count, rw c.in-Err-line.is c.refuse.ensures)
