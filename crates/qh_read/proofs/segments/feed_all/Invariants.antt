use Rattle.std.proofs.Common.{◌≡◌, ◌+◌, ◌*◌, ◌++◌, ℕ, List, take, length}
use Rattle.{qh_model.specs.declared.form.Form.Form, qh_read.specs.contract.Holding.Fed, qh_read.specs.steps.Segments.AreSegments}
use Rattle.qh_read.proofs.segments.feed_all.Given as goal

-- the segments so far
abbrev pub invariant-loop-i : goal.invariant-loop-i
invariant-loop-i l = record {
  fed : (form : Form) (before : List ℕ) → Fed form l.fn.reader before → Fed form l.reader (before ++ take (l.i * l.size) l.text);
  kept : AreSegments l.segments l.text;
  same : length l.segments ≡ length l.fn.segments;
  count : l.reader.count ≡ l.fn.reader.count + length (take (l.i * l.size) l.text);
}
