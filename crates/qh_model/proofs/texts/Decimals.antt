-- Decimals as they are written are numbers: their values and their bytes.
use Rattle.qh_model.proofs.Members.{every_map}
use Rattle.qh_model.specs.headline.Numbers.{are_digits, magnitude_of, number_of, read_digits}
use Rattle.std.proofs.Common.{Bool, List, [], ap, arith, cond, decimal, false, length, ne_eqb, refl, subst, suc, sym, true, zero, ℕ, ◌%◌, ◌*◌, ◌+◌, ◌-◌, ◌/◌}
use Rattle.std.proofs.Common.{◌<◌, ◌==◌, ◌^◌, ◌∙◌, ◌∷◌, ◌≡◌}
use Rattle.std.proofs.lemmas.{Bool.le-leb, Bool.lt-ltb, Fmt.decimal_is_IsNumeral_wide, Str.digit_value_digit}
use Rattle.std.specs.{Char.digit_value, Fmt.digit_glyph, Fmt.digits, Fmt.digits_onto, Fmt.signed_decimal, Int.IsInRange, List.AllByRecursion as Every}
use Rattle.std.specs.{Prelude.Some, Prelude.negsuc, Prelude.pos, Prelude.unsigned_abs, Prelude.ℤ, Str.Parse.digits_value_after}

-- a digit
abbrev pub IsDigit : ℕ → Type 0
IsDigit c = IsInRange 48 57 c

-- one or more digits
abbrev pub AreSomeDigits : List ℕ → Type 0
AreSomeDigits cs = (0 < length cs) × Every IsDigit cs

-- ---- the bytes of decimals
-- the last digit
glyph_digit : (n : ℕ) → IsDigit (digit_glyph false (n % 10))
glyph_digit n = subst (λ (b : Bool). IsDigit (cond b (48 + n % 10) (87 + n % 10))) (sym (lt-ltb (n % 10) 10 (omega arith))) (omega arith, omega arith)

-- digits in both cases
either_digits : (b : Bool) (cs ds : List ℕ) → AreSomeDigits cs → AreSomeDigits ds → AreSomeDigits (cond b cs ds)
either_digits = grind arith

-- digits in front of digits
onto_digits : (k n : ℕ) (acc : List ℕ) → AreSomeDigits acc → AreSomeDigits (digits_onto k 10 false n acc)
onto_digits zero n acc h = h
onto_digits (suc k) n acc h =
    let longer : List ℕ = digit_glyph false (n % 10) ∷ acc in
    let more : AreSomeDigits longer = (omega arith, (glyph_digit n, h.1)) in
    either_digits (n / 10 == 0) longer (digits_onto k 10 false (n / 10) longer) more (onto_digits k (n / 10) longer more)

-- a decimal of any size has at least one digit
pub decimal_digits : (n : ℕ) → AreSomeDigits (decimal n)
unfolding digits
decimal_digits n =
    let ones : List ℕ = digit_glyph false (n % 10) ∷ [] in
    let one : AreSomeDigits ones = (omega arith, (glyph_digit n, tt)) in
    either_digits (n / 10 == 0) ones (digits_onto 63 10 false (n / 10) ones) one (onto_digits 63 (n / 10) ones one)

-- ---- the values of digits
-- the test
digits_told : (cs : List ℕ) → Every IsDigit cs → are_digits cs ≡ true
digits_told [] h = refl
digits_told (c ∷ cs) h = cc (le-leb 48 c h.0.0, le-leb c 57 h.0.1, digits_told cs h.1)

-- digits are a magnitude
magnitude_of_digits : (cs : List ℕ) → AreSomeDigits cs → magnitude_of cs ≡ Some (read_digits 0 cs)
magnitude_of_digits = grind (arith, digits_told)

-- neither of two tests passes
neither : {X : Type 0} (p q : Bool) (x y z : X) → p ≡ false → q ≡ false → cond p x (cond q y z) ≡ z
neither p q x y z e f = ap (λ (b : Bool). cond b x (cond q y z)) e ∙ ap (λ (b : Bool). cond b y z) f

-- digits are a number
pub number_of_digits : (cs : List ℕ) → AreSomeDigits cs → number_of cs ≡ Some (pos (read_digits 0 cs))
number_of_digits = grind (arith, ne_eqb, neither, magnitude_of_digits)

-- the value of digits is that of std
value_of_digits : (n : ℕ) (cs : List ℕ) → Every IsDigit cs → read_digits n cs ≡ digits_value_after 10 n cs
value_of_digits n [] h = refl
value_of_digits n (c ∷ cs) h =
    let value = digit_value_digit c h.0 in
    let same : 10 * n + (c - 48) ≡ n * 10 + digit_value c = omega (arith, value) in
    ap (λ m. read_digits m cs) same ∙ value_of_digits (n * 10 + digit_value c) cs h.1

decimal_value : (n : ℕ) → n < 10 ^ 64 → read_digits 0 (decimal n) ≡ n
decimal_value n h = value_of_digits 0 (decimal n) (decimal_digits n).1 ∙ (decimal_is_IsNumeral_wide n h).1

-- ---- decimals are numbers
-- the decimal of a natural number is a number
pub number_of_decimal : (n : ℕ) → n < 10 ^ 64 → number_of (decimal n) ≡ Some (pos n)
number_of_decimal n h = number_of_digits (decimal n) (decimal_digits n) ∙ ap (λ m. Some (pos m)) (decimal_value n h)

-- the decimal of a whole number is a number
pub number_of_signed : (z : ℤ) → unsigned_abs z < 10 ^ 64 → number_of (signed_decimal z) ≡ Some z
number_of_signed = grind (arith, number_of_decimal, magnitude_of_digits, decimal, decimal_digits, decimal_value)

-- ---- decimals as words
-- a byte of a number: from `-` to `9`
abbrev pub IsOfNumber : ℕ → Type 0
IsOfNumber c = IsInRange 45 57 c

-- one or more such bytes
abbrev pub IsNumberWord : List ℕ → Type 0
IsNumberWord cs = (0 < length cs) × Every IsOfNumber cs

-- a decimal consists of these bytes
pub decimal_word : (n : ℕ) → IsNumberWord (decimal n)
decimal_word n = let d = decimal_digits n in (d.0, every_map IsDigit IsOfNumber (decimal n) (λ c e. (omega (arith, e.0), omega (arith, e.1))) d.1)

-- a decimal with a sign consists of these bytes
pub signed_word : (z : ℤ) → IsNumberWord (signed_decimal z)
signed_word (pos n) = decimal_word n
signed_word (negsuc n) = (omega arith, ((omega arith, omega arith), (decimal_word (suc n)).1))
