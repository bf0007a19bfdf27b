-- The bytes so far are a gap, and a line ends at one of them for each further line.
use Rattle.std.{proofs.Common.◌≡◌, proofs.Common.◌≤◌, proofs.Common.◌+◌, proofs.Common.false, proofs.Common.drop, specs.Prelude.None}
use Rattle.qh_read.specs.steps.Arriving.{arriving}
use Rattle.qh_read.proofs.numerals.after_gap.Given as goal

abbrev pub invariant-loop-i : goal.invariant-loop-i
invariant-loop-i l = record {
  told : arriving None false l.fn.line l.bytes ≡ arriving None l.comment l.later (drop l.i l.bytes);
  lines : l.later ≤ l.fn.line + l.i;
}
