use Rattle.std.proofs.Common.{◌≡◌, ◌≤◌, ◌+◌, drop, ℕ}
use Rattle.{qh_model.specs.declared.form.Form.Form, qh_read.specs.contract.Holding.held_by}
use Rattle.qh_read.specs.{contract.Progress.Progress, declared.token.Token.TheVariants.Empty, steps.Cursors.held_from, steps.Numbers.quiet}
use Rattle.qh_read.proofs.cursor.Cursor.after_blanks.Given as goal

-- the bytes so far are separators, and a line ends at one of them for each further line
abbrev pub invariant-loop-i : goal.invariant-loop-i
invariant-loop-i l = record {
  parted : (form : Form) (p : Progress) (base : ℕ)
      → held_from form p base l.self ≡ held_by (quiet form p (base + l.line) Empty) (drop l.i l.self.bytes.now);
  lines : l.line + l.self.at ≤ l.self.line + l.i;
}
