-- A word with a numeral in range denotes that number; any other word denotes no number.
use Rattle.std.proofs.Common.{arith, refl}
use Rattle.hullcheck.proofs.WordLaws.{no_workers, number_of_workers}
use Rattle.hullcheck.proofs.command_line.workers_of.Goals as goal

pub returns-in_default : goal.returns-in_default
returns-in_default c = (refl, no_workers c.args.word.now (λ numeral low high. c.in_default.ensures.value.0 (numeral, omega arith)))

pub returns : goal.returns
returns c =
    let ((numeral, fits), same) = c.in-Ok.ensures.value.0 in
    number_of_workers c.args.word.now c.in-Ok.workers numeral same c.if-workers-lt1.false c.if-workers-gt-WORKER_LIMIT.false
