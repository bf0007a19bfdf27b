-- The corners so far were taken, and the others of the count are expected.
use Rattle.qh_read.proofs.faces.corners.take_corners.Given as goal
use Rattle.std.{proofs.Common.ℕ, proofs.Common.◌≡◌, proofs.Common.◌-◌, proofs.Common.List, proofs.Common.length, specs.Prelude.Option}
use Rattle.qh_model.specs.declared.read_fault.ReadFault.{ReadFault}
use Rattle.qh_read.specs.{contract.FaceFaults.corners_fault, declared.numerals.Numeral.Numeral, steps.Corners.AreTaken}

abbrev pub invariant-corners : goal.invariant-corners
invariant-corners l = record {
  taken : AreTaken l.fn.line l.fn.words l.ids.items l.last l.words;
  count : length l.ids.items ≡ l.counter;
  passes : (after : ℕ → List Numeral → Option ReadFault)
      → corners_fault after l.fn.count l.fn.line l.fn.words ≡ corners_fault after (l.fn.count - l.counter) l.last l.words;
}
