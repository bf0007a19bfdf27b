-- The words after the line stay the same.
use Rattle.{std.proofs.Common.◌≡◌, std.proofs.Common.length, qh_read.specs.contract.FaceWords.after_line}
use Rattle.qh_read.proofs.faces.corners.skip_line.Given as goal

abbrev pub invariant-loop : goal.invariant-loop
invariant-loop l = after_line l.fn.line l.words ≡ after_line l.fn.line l.fn.words

abbrev pub decreases-loop : goal.decreases-loop
decreases-loop l = length l.words
