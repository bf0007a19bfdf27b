use Rattle.std.proofs.Common.{arith, ◌≡◌, ◌<◌, ◌+◌, ◌-◌, ◌∙◌, ℕ, Bool, List, true, false, cond, drop, length, ap, subst, refl}
use Rattle.{std.proofs.lemmas.Grind.common_steps, std.specs.Char.is_ascii_digit, std.specs.Prelude.get_or, qh_model.specs.declared.form.Form.Form}
use Rattle.qh_read.specs.{contract.Holding.next_held, contract.Progress.Progress, steps.Numbers.quiet, steps.Numbers.IsBegun, steps.Signs.is_minus}
use Rattle.qh_read.specs.declared.token.Token.TheVariants.{Empty, Sign, Digits}
use Rattle.qh_read.proofs.{CursorLaws.step, numbers.first_digit.Goals.then-bytes-at-eq43, numbers.first_digit.Goals.else-bytes-at-eq43}
use Rattle.qh_read.proofs.numbers.first_digit.Goals as goal

unsigned : (form : Form) (p : Progress) (line d : ℕ) → is_ascii_digit d ≡ true
    → next_held (quiet form p line Empty) d ≡ quiet form p line (Digits false (d - 48))
unsigned form p line d h = grind (arith, common_steps)

after_sign : (form : Form) (p : Progress) (line : ℕ) (minus : Bool) (d : ℕ) → is_ascii_digit d ≡ true
    → next_held (quiet form p line (Sign minus)) d ≡ quiet form p line (Digits minus (d - 48))
after_sign form p line minus d h = grind (arith, common_steps)

sign : (form : Form) (p : Progress) (line : ℕ) (minus : Bool) → next_held (quiet form p line Empty) (cond minus 45 43) ≡ quiet form p line (Sign minus)
sign form p line minus = grind (arith, common_steps)

-- a digit
one : (bytes : List ℕ) (start : ℕ) (digit : ℕ) → start < length bytes → is_ascii_digit (get_or bytes start 0) ≡ true
    → digit ≡ get_or bytes start 0 - 48 → IsBegun (drop start bytes) false digit (drop (start + 1) bytes)
one bytes start digit within h value form p line =
    step (quiet form p line Empty) (quiet form p line (Digits false digit)) bytes start (start + 1) within refl
    (rw value (unsigned form p line (get_or bytes start 0) h))

-- a sign and a digit
two : (bytes : List ℕ) (at start : ℕ) (minus : Bool) (digit : ℕ) → start ≡ at + 1 → start < length bytes → get_or bytes at 0 ≡ cond minus 45 43
    → is_ascii_digit (get_or bytes start 0) ≡ true → digit ≡ get_or bytes start 0 - 48 → IsBegun (drop at bytes) minus digit (drop (start + 1) bytes)
two bytes at start minus digit e within byte h value form p line =
    step (quiet form p line Empty) (quiet form p line (Sign minus)) bytes at start (omega arith) e
    (ap (next_held (quiet form p line Empty)) byte ∙ sign form p line minus)
    ∙ step (quiet form p line (Sign minus)) (quiet form p line (Digits minus digit)) bytes start (start + 1) within refl
    (rw value (after_sign form p line minus (get_or bytes start 0) h))

pub returns-clause-held : goal.returns-clause-held
returns-clause-held c =
    let bytes : List ℕ = c.args.bytes.now in let start : ℕ = c.if-bytes-at-eq43.start in
    let minus : Bool = is_minus c.if-minus-2.sign in let digit : ℕ = c.digit_of-digit.result in
    let h : is_ascii_digit (get_or bytes start 0) ≡ true = c.digit_of-digit.ensures.digit c.if-digit-gt9.false in
    let value : digit ≡ get_or bytes start 0 - 48 = c.digit_of-digit.ensures.value c.if-digit-gt9.false in
    elim c.if-bytes-at-eq43.branch [
      | then-bytes-at-eq43 w ↦
          let byte : get_or bytes c.args.at 0 ≡ cond minus 45 43 = grind (arith, common_steps) in
          two bytes c.args.at start minus digit w.start-is (omega arith) byte h value
      | else-bytes-at-eq43 w ↦
          let plus : false ≡ minus = grind (arith, common_steps) in
          subst (λ (m : Bool). IsBegun (drop c.args.at bytes) m digit (drop (start + 1) bytes)) plus
          (subst (λ (i : ℕ). IsBegun (drop i bytes) false digit (drop (start + 1) bytes)) w.start-is (one bytes start digit (omega arith) h value))
    ]
