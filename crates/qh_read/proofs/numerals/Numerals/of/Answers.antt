-- The words that arrive from the first byte on are those of the text.
use Rattle.{std.proofs.Common.◌∙◌, qh_read.proofs.ArrivingLaws.arriving-all}
use Rattle.qh_read.proofs.numerals.Numerals.of.Goals as goal

pub returns : goal.returns
returns c = c.from_line.ensures ∙ arriving-all c.args.bytes.now
