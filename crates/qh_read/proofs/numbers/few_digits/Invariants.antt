use Rattle.{qh_model.specs.declared.form.Form.Form, qh_read.proofs.DigitLaws.greatest}
use Rattle.qh_read.specs.{contract.Holding.held_by, contract.Progress.Progress, declared.token.Token.TheVariants.Digits, steps.Numbers.quiet}
use Rattle.std.proofs.Common.{◌≡◌, ◌≤◌, ◌+◌, ℕ, Bool, drop}
use Rattle.qh_read.proofs.numbers.few_digits.Given as goal

-- the bytes so far are the digits of the magnitude
abbrev pub invariant-loop-i : goal.invariant-loop-i
invariant-loop-i l = record {
  continued : (form : Form) (p : Progress) (line : ℕ) (minus : Bool) → held_by (quiet form p line (Digits minus l.fn.first)) (drop l.fn.at l.bytes)
      ≡ held_by (quiet form p line (Digits minus l.magnitude)) (drop (l.fn.at + l.i) l.bytes);
  small : l.magnitude ≤ greatest l.i;
}
