use Rattle.qh_read.proofs.WordLaws.{line-ends}
use Rattle.qh_read.proofs.faces.corners.take_line.Goals as goal

pub returns-clause-ok : goal.returns-clause-ok
returns-clause-ok c =
    line-ends c.args.words.now c.loop-word.ids.items c.in_ok-first.first.line c.loop-word.words c.take_on.new.self c.loop-word.invariant.read
    c.in_default.ensures.1 c.in_default.ensures.0
