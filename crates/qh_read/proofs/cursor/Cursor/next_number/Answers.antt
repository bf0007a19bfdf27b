use Rattle.std.proofs.Common.{arith, refl, ap, sym, ◌∙◌, ◌+◌, ◌<◌, ℕ, List, length, drop, Bool, false}
use Rattle.std.specs.Prelude.{ℤ, Some}
use Rattle.qh_read.specs.{contract.Holding.held_by, contract.Progress.after, steps.Numbers.quiet, steps.Signs.is_minus, declared.token.Token.TheVariants.Empty}
use Rattle.qh_read.{specs.declared.token.Token.TheVariants.Digits, proofs.CursorLaws.step}
use Rattle.qh_read.proofs.cursor.Cursor.next_number.Goals as goal

-- a sign and a digit, further digits, and the byte after them, in turn
pub returns : goal.returns
returns c =
    let bytes : List ℕ = c.args.self.bytes.now in let line : ℕ = c.args.self.line in
    let minus : Bool = is_minus c.in_ok-sign.sign in let magnitude : ℕ = c.few_digits-magnitude.result.0 in
    let end : ℕ = c.few_digits-magnitude.result.1 in let later : ℕ = c.in_ok-line.line in
    let within : end < length bytes = omega (arith, c.in_ok-sign.ensures) in
    record {
      held = λ form p base. (
        base + line,
        c.in_ok-sign.ensures.held form p (base + line)
            ∙ c.few_digits-magnitude.ensures.held form p (base + line) minus
            ∙ step (quiet form p (base + line) (Digits minus magnitude)) _ bytes end (end + 1) within refl
            (c.in_ok-line.ensures.held form p base minus magnitude)
            ∙ ap (λ (z : ℤ). held_by (quiet form (after p false (Some z) (base + line)) (base + later) Empty) (drop (end + 1) bytes))
            (sym c.signed_coordinate.ensures),
      );
      moved = record { same = refl; on = omega (arith, c.in_ok-sign.ensures); lines = omega (arith, c.in_ok-sign.ensures, c.in_ok-line.ensures) };
      most = omega (arith, c.in_ok-sign.ensures);
    }
