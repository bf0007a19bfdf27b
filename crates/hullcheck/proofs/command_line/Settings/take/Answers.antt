-- A word is processed before those after it.
use Rattle.qh_model.proofs.Common.{◌∙◌, ap, sym, option_and_then}
use Rattle.hullcheck.specs.contract.CommandLine.{Asked, asked_in, with_words}
use Rattle.hullcheck.proofs.WordLaws.{number_behind, word_before}
use Rattle.hullcheck.proofs.command_line.Settings.take.Goals as goal

pub returns-in-Any : goal.returns-in-Any
returns-in-Any c = λ rest. rw c.in-Any.is (number_behind (asked_in c.args.self.now) c.args.word.now rest (sym c.eq.ensures ∙ c.if-eq.true))

pub returns-in_ok-take_word-in-Any-2 : goal.returns-in_ok-take_word-in-Any-2
returns-in_ok-take_word-in-Any-2 c = λ rest. rw c.in-Any-2.is (word_before (asked_in c.args.self.now) c.args.word.now rest (sym c.eq.ensures ∙ c.if-eq.false)
    ∙ ap (option_and_then (λ (more : Asked). with_words more rest)) c.in_ok-take_word-in-Any-2.ensures)
