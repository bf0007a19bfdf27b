-- For any further corners, the first ones are those so far.
use Rattle.std.{proofs.Common.ℕ, proofs.Common.◌≡◌, proofs.Common.◌++◌, proofs.Common.List, proofs.Common.length, specs.Prelude.Option}
use Rattle.qh_read.specs.contract.{FaceFaults.line_fault, FaceFaults.line_face_fault, FaceWords.AreNumbers, FaceWords.IsLineFace, FaceWords.after_line}
use Rattle.{qh_read.specs.contract.FaceWords.on_line, qh_model.specs.declared.read_fault.ReadFault.ReadFault, qh_read.specs.declared.numerals.Numeral.Numeral}
use Rattle.qh_read.proofs.faces.corners.take_line.Given as goal

abbrev pub invariant-loop-word : goal.invariant-loop-word
invariant-loop-word l = record {
  read : (more : List ℕ) → AreNumbers (on_line l.first.line l.words) more → IsLineFace l.fn.words (l.ids.items ++ more) (after_line l.first.line l.words);
  passes : (after : List Numeral → Option ReadFault) → line_face_fault after l.fn.words ≡ line_fault after l.first.line l.words;
}

abbrev pub decreases-loop-word : goal.decreases-loop-word
decreases-loop-word l = length l.words
