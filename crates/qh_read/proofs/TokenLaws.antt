-- The token of a word determines its number, up to the cap.
use Rattle.qh_model.proofs.Common.{◌≡◌, ◌∙◌, [], ◌∷◌, ◌+◌, ◌-◌, ◌*◌, ◌≤◌, ◌==◌, ◌&&◌, ℕ, List, Bool, true, false, cond, refl, ap, sym, arith, zero, suc, min}
use Rattle.qh_model.proofs.Common.{nat_tests, is_ascii_digit, codes, pos, neg_ℤ, Option, Some, None, option_map, bytes_eq, read_digits, number_of}
use Rattle.qh_model.specs.{declared.limits.TheConstants.COORDINATE_LIMIT, headline.Numbers.are_digits, headline.Numbers.magnitude_of}
use Rattle.qh_read.specs.contract.Tokens.{cap, grown, signed, value_of, is_keyword}
use Rattle.qh_read.specs.{declared.token.Token.Token, steps.SmallTokens.capped}
use Rattle.qh_read.specs.declared.token.Token.TheVariants.{Empty, Sign, Digits, Keyword, Other}

-- the token after these bytes
abbrev pub grown_by : Token → List ℕ → Token
grown_by t [] = t
grown_by t (c ∷ cs) = grown_by (grown t c) cs

digit_small : (c : ℕ) → is_ascii_digit c ≡ true → c - 48 ≤ 9
digit_small c h = grind (arith, nat_tests)

others : (cs : List ℕ) → grown_by Other cs ≡ Other
others [] = refl
others (c ∷ cs) = others cs

digits : (cs : List ℕ) (minus : Bool) (n : ℕ) → grown_by (Digits minus (cap n)) cs ≡ cond (are_digits cs) (Digits minus (cap (read_digits n cs))) Other
digits [] minus n = refl
digits (c ∷ cs) minus n = let m = 10 * n + (c - 48) in
    elim (is_ascii_digit c) as (λ b. grown_by (cond b (Digits minus (cap (10 * cap n + (c - 48)))) Other) cs
    ≡ cond (b && are_digits cs) (Digits minus (cap (read_digits m cs))) Other) [
      | true ↦ ap (λ k. grown_by (Digits minus k) cs) (omega arith) ∙ digits cs minus m
      | false ↦ others cs
    ]

shown_value : (b minus : Bool) (n : ℕ) → value_of (cond b (Digits minus (cap n)) Other) ≡ option_map (λ k. signed minus (cap k)) (cond b (Some n) None)
shown_value true minus n = refl
shown_value false minus n = refl

magnitude : (minus : Bool) (cs : List ℕ) → value_of (grown_by (Sign minus) cs) ≡ option_map (λ k. signed minus (cap k)) (magnitude_of cs)
magnitude minus [] = refl
magnitude minus (c ∷ cs) = let m = 10 * 0 + (c - 48) in
    elim (is_ascii_digit c) as (λ b. is_ascii_digit c ≡ b → value_of (grown_by (cond b (Digits minus (c - 48)) Other) cs)
    ≡ option_map (λ k. signed minus (cap k)) (cond (b && are_digits cs) (Some (read_digits m cs)) None)) [
      | true ↦ λ e. let few : c - 48 ≤ 9 = digit_small c e in
          ap (λ k. value_of (grown_by (Digits minus k) cs)) (omega arith) ∙ ap value_of (digits cs minus m)
          ∙ shown_value (are_digits cs) minus (read_digits m cs)
      | false ↦ λ e. ap value_of (others cs)
    ] refl

plain : (o : Option ℕ) → option_map (λ k. signed false (cap k)) o ≡ option_map capped (option_map pos o)
plain None = refl
plain (Some n) = refl

negated : (n : ℕ) → neg_ℤ (pos (cap n)) ≡ capped (neg_ℤ (pos n))
negated zero = refl
negated (suc n) = let e : cap (suc n) ≡ suc (min n COORDINATE_LIMIT) = omega arith in ap (λ k. neg_ℤ (pos k)) e

minus_of : (o : Option ℕ) → option_map (λ k. signed true (cap k)) o ≡ option_map capped (option_map (λ n. neg_ℤ (pos n)) o)
minus_of None = refl
minus_of (Some n) = ap Some (negated n)

-- letters of the keyword are not a number, whatever follows
no_number : (cs : List ℕ) (letters : ℕ) → value_of (grown_by (Keyword letters) cs) ≡ None
no_number [] letters = refl
no_number (c ∷ cs) letters = at (no_number cs) (c == 70) (letters == 1) (letters == 2)
  where
    at : ((letters : ℕ) → value_of (grown_by (Keyword letters) cs) ≡ None) → (a b d : Bool)
        → value_of (grown_by (cond a (cond b (Keyword 2) (cond d (Keyword 3) Other)) Other) cs) ≡ None
    at rest true true d = rest 2
    at rest true false true = rest 3
    at rest true false false = ap value_of (others cs)
    at rest false b d = ap value_of (others cs)

-- a byte that does not begin a number does not begin one with letters of the keyword either
plain_start : (a b : Bool) (t : Token) (cs : List ℕ) → value_of (grown_by (cond a t (cond b (Keyword 1) Other)) cs) ≡ value_of (grown_by (cond a t Other) cs)
plain_start false true t cs = no_number cs 1 ∙ sym (ap value_of (others cs))
plain_start a b t cs = refl

pub value-number : (w : List ℕ) → value_of (grown_by Empty w) ≡ option_map capped (number_of w)
value-number [] = refl
value-number (c ∷ cs) = at (c == 43) (c == 45) (c == 79)
  where
    at : (b d o : Bool) → value_of (grown_by
        (cond b (Sign false) (cond d (Sign true) (cond (is_ascii_digit c) (Digits false (c - 48)) (cond o (Keyword 1) Other)))) cs)
        ≡ option_map capped (cond b (option_map pos (magnitude_of cs))
        (cond d (option_map (λ n. neg_ℤ (pos n)) (magnitude_of cs)) (option_map pos (magnitude_of (c ∷ cs)))))
    at true d o = magnitude false cs ∙ plain (magnitude_of cs)
    at false true o = magnitude true cs ∙ minus_of (magnitude_of cs)
    at false false o = plain_start (is_ascii_digit c) o (Digits false (c - 48)) cs ∙ magnitude false (c ∷ cs) ∙ plain (magnitude_of (c ∷ cs))

-- ---- the keyword
other_word : (cs : List ℕ) → is_keyword (grown_by Other cs) ≡ false
other_word cs = ap is_keyword (others cs)

digits_word : (cs : List ℕ) (minus : Bool) (n : ℕ) → is_keyword (grown_by (Digits minus n) cs) ≡ false
digits_word [] minus n = refl
digits_word (c ∷ cs) minus n = let m = cap (10 * n + (c - 48)) in
    elim (is_ascii_digit c) as (λ b. is_keyword (grown_by (cond b (Digits minus m) Other) cs) ≡ false) [ true ↦ digits_word cs minus m | false ↦ other_word cs ]

signed_word : (cs : List ℕ) (minus : Bool) → is_keyword (grown_by (Sign minus) cs) ≡ false
signed_word [] minus = refl
signed_word (c ∷ cs) minus = elim (is_ascii_digit c) as (λ b. is_keyword (grown_by (cond b (Digits minus (c - 48)) Other) cs) ≡ false)
    [ true ↦ digits_word cs minus (c - 48) | false ↦ other_word cs ]

after_off : (w : List ℕ) → is_keyword (grown_by (Keyword 3) w) ≡ bytes_eq w []
after_off [] = refl
after_off (c ∷ w) = elim (c == 70) as (λ b. is_keyword (grown_by (cond b Other Other) w) ≡ false) [ true ↦ other_word w | false ↦ other_word w ]

after_of : (w : List ℕ) → is_keyword (grown_by (Keyword 2) w) ≡ bytes_eq w (70 ∷ [])
after_of [] = refl
after_of (c ∷ w) = elim (c == 70) as (λ b. is_keyword (grown_by (cond b (Keyword 3) Other) w) ≡ (b && bytes_eq w []))
    [ true ↦ after_off w | false ↦ other_word w ]

after_o : (w : List ℕ) → is_keyword (grown_by (Keyword 1) w) ≡ bytes_eq w (70 ∷ 70 ∷ [])
after_o [] = refl
after_o (c ∷ w) = elim (c == 70) as (λ b. is_keyword (grown_by (cond b (Keyword 2) Other) w) ≡ (b && bytes_eq w (70 ∷ [])))
    [ true ↦ after_of w | false ↦ other_word w ]

-- the token of a word determines whether it is the keyword
pub keyword-off : (w : List ℕ) → is_keyword (grown_by Empty w) ≡ bytes_eq w (codes "OFF")
keyword-off [] = refl
keyword-off (c ∷ w) = at (c == 43) (c == 45) (is_ascii_digit c) (c == 79) refl refl refl refl
  where
    at : (a b d o : Bool) → (c == 43) ≡ a → (c == 45) ≡ b → is_ascii_digit c ≡ d → (c == 79) ≡ o
        → is_keyword (grown_by (cond a (Sign false) (cond b (Sign true) (cond d (Digits false (c - 48)) (cond o (Keyword 1) Other)))) w)
        ≡ (o && bytes_eq w (70 ∷ 70 ∷ []))
    at true b d false p q r s = signed_word w false
    at false true d false p q r s = signed_word w true
    at false false true false p q r s = digits_word w false (c - 48)
    at false false false true p q r s = after_o w
    at false false false false p q r s = other_word w
    at a b d true p q r s = absurd (grind (arith, nat_tests))
