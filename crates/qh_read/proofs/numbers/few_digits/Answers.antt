use Rattle.std.proofs.Common.{arith, ◌≡◌, ◌≤◌, ◌<◌, ◌+◌, ◌-◌, ◌*◌, ◌∙◌, ℕ, Bool, List, true, length, add-one}
use Rattle.{std.proofs.lemmas.Grind.common_steps, std.specs.Char.is_ascii_digit, std.specs.Prelude.get_or, qh_model.specs.declared.form.Form.Form}
use Rattle.qh_read.{proofs.CursorLaws.step, proofs.DigitLaws.greatest, proofs.DigitLaws.greatest-rises, specs.contract.Holding.next_held}
use Rattle.qh_read.specs.{contract.Progress.Progress, declared.token.TheConstants.MAGNITUDE_CAP, declared.token.Token.TheVariants.Digits, steps.Numbers.quiet}
use Rattle.qh_read.proofs.numbers.few_digits.Goals as goal

-- one more digit, below the cap
digit_more : (form : Form) (p : Progress) (line : ℕ) (minus : Bool) (n d : ℕ) → is_ascii_digit d ≡ true
    → 10 * n + (d - 48) ≤ MAGNITUDE_CAP → next_held (quiet form p line (Digits minus n)) d ≡ quiet form p line (Digits minus (10 * n + (d - 48)))
digit_more form p line minus n d h k = grind (arith, common_steps)

pub overflow_mul-magnitude : goal.overflow_mul-magnitude
overflow_mul-magnitude c = omega (arith, greatest-rises c.loop-i.i 7 (omega arith))

pub overflow_add-magnitude : goal.overflow_add-magnitude
overflow_add-magnitude c = omega (arith, greatest-rises c.loop-i.i 7 (omega arith))

pub returns-then-digit-gt9-clause-small : goal.returns-then-digit-gt9-clause-small
returns-then-digit-gt9-clause-small c = omega (arith, greatest-rises c.loop-i.i 8 (omega arith))

pub loop-i-preserved : goal.loop-i-preserved
loop-i-preserved c =
    let bytes : List ℕ = c.args.bytes.now in let at : ℕ = c.args.at + c.loop-i.i in let n : ℕ = c.loop-i.magnitude in
    let digit : ℕ = c.digit_of-digit.result in
    let h : is_ascii_digit (get_or bytes at 0) ≡ true = c.digit_of-digit.ensures.digit c.if-digit-gt9.false in
    let value : digit ≡ get_or bytes at 0 - 48 = c.digit_of-digit.ensures.value c.if-digit-gt9.false in
    let within : at < length bytes = omega arith in
    let bound : 10 * n + digit ≤ greatest (c.loop-i.i + 1) = rw add-one (omega arith) in
    let small : 10 * n + (get_or bytes at 0 - 48) ≤ MAGNITUDE_CAP = omega (arith, greatest-rises (c.loop-i.i + 1) 8 (omega arith)) in
    record {
      continued = λ form p line minus. c.loop-i.invariant.continued form p line minus
          ∙ step (quiet form p line (Digits minus n)) (quiet form p line (Digits minus (10 * n + digit))) bytes at (c.args.at + (c.loop-i.i + 1))
          within (omega arith) (rw value (digit_more form p line minus n (get_or bytes at 0) h small));
      small = bound;
    }
