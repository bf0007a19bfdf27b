-- The words so far and the remaining ones specify the same settings as all words.
use Rattle.qh_model.proofs.Common.{◌≡◌, drop, map, string_bytes}
use Rattle.hullcheck.specs.{contract.CommandLine.asked_by_default, contract.CommandLine.asked_in, contract.CommandLine.with_words, steps.Words.with_next}
use Rattle.hullcheck.proofs.command_line.settings_of.Given as goal

abbrev pub invariant-loop-word : goal.invariant-loop-word
invariant-loop-word l = with_next l.next (asked_in l.settings) (map string_bytes (drop l.word-index l.rest))
    ≡ with_words asked_by_default (map string_bytes l.rest)
