use Rattle.{std.proofs.Common.◌≡◌, std.proofs.Common.length, std.proofs.Common.drop, qh_write.specs.steps.Numberings.numbered}
use Rattle.qh_write.proofs.texts.numbering.number_table.Given as goal

abbrev pub invariant-loop-number : goal.invariant-loop-number
invariant-loop-number l =
    (numbered l.numbers.items l.number (drop l.number l.extremes) ≡ numbered l.initial.numbers.items 0 l.extremes) × (length l.numbers.items ≡ l.count)
