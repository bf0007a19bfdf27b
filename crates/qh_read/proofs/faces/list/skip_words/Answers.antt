use Rattle.qh_read.proofs.ListLaws.{dropped-more}
use Rattle.qh_read.proofs.faces.list.skip_words.Goals as goal

pub words-preserved : goal.words-preserved
words-preserved c = dropped-more c.args.words.now c.words.counter c.words.words c.take.new.self c.take.result c.words.invariant c.take.ensures
