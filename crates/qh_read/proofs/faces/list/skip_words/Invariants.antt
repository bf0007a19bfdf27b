-- The number of words skipped so far.
use Rattle.std.proofs.Common.{◌≡◌, drop}
use Rattle.qh_read.proofs.faces.list.skip_words.Given as goal

abbrev pub invariant-words : goal.invariant-words
invariant-words l = l.words ≡ drop l.counter l.fn.words
