-- The words that arrive from the first byte on are those of the text.
use Rattle.qh_model.proofs.Common.{◌≡◌, ◌∙◌, [], ◌∷◌, ◌+◌, ◌==◌, ◌++◌, ℕ, List, Bool, true, false, cond, refl}
use Rattle.qh_model.proofs.Common.{ap, sym, arith, append_assoc, map, nat_tests, map-append, ℤ, pos, Option, Some, None, option_map, number_of, Word, is_blank}
use Rattle.{qh_model.specs.declared.form.Form.TheVariants.Off, qh_read.proofs.HoldingLaws.grown_more, qh_read.proofs.Lexing.Lexed, qh_read.proofs.Lexing.start}
use Rattle.qh_read.proofs.{Lexing.ended, Lexing.closed, Lexing.next, Lexing.lexed, OffLexingLaws.off_words-lexed, TokenLaws.grown_by, TokenLaws.value-number}
use Rattle.qh_read.specs.contract.Numerals.{small_number, numeral_of, numerals_in}
use Rattle.qh_read.specs.declared.{numerals.Numeral.Numeral, token.Token.Token, token.Token.TheVariants.Empty}
use Rattle.qh_read.specs.steps.{Arriving.told_if, Arriving.grown_on, Arriving.arriving, SmallTokens.capped}

-- a small number is distinguished from all others
small-capped : (o : Option ℤ) → small_number (option_map capped o) ≡ small_number o
small-capped (Some (pos n)) = grind (arith, nat_tests)
small-capped o = refl

-- the token of an unfinished word
abbrev under : List ℕ → Option Token
under [] = None
under (c ∷ w) = Some (grown_by Empty (c ∷ w))

ends : (n : ℕ) (w : List ℕ) → map numeral_of (ended n w) ≡ told_if (under w) n
ends n [] = refl
ends n (c ∷ w) =
    ap (λ (o : Option ℕ). record { number = o; line = n } ∷ []) (sym (small-capped (number_of (c ∷ w))) ∙ ap small_number (sym (value-number (c ∷ w))))

closes : (ws : List Word) (n : ℕ) (w : List ℕ) → map numeral_of (ws ++ ended n w) ≡ map numeral_of ws ++ told_if (under w) n
closes ws n w = map-append numeral_of ws (ended n w) ∙ ap (λ (t : List Numeral). map numeral_of ws ++ t) (ends n w)

grows : (w : List ℕ) (c : ℕ) → under (w ++ c ∷ []) ≡ Some (grown_on (under w) c)
grows [] c = refl
grows (b ∷ w) c = ap Some (grown_more (b ∷ w) Empty c)

-- the words that ended, and those that follow
abbrev shown : Lexed → List ℕ → List Numeral
shown s cs = map numeral_of s.words ++ arriving (under s.under_way) s.comment s.line cs

-- a word ends, and others follow
goes_on : (ws : List Word) (n : ℕ) (w : List ℕ) (more : List Numeral)
    → map numeral_of (ws ++ ended n w) ++ more ≡ map numeral_of ws ++ (told_if (under w) n ++ more)
goes_on ws n w more = ap (λ (t : List Numeral). t ++ more) (closes ws n w) ∙ append_assoc (map numeral_of ws) (told_if (under w) n) more

step_at : (ws : List Word) (n : ℕ) (b : Bool) (w : List ℕ) (c : ℕ) (cs : List ℕ) (line blank hash : Bool) →
    let s : Lexed = record { words = ws; line = n; comment = b; under_way = w } in
    shown (cond line (record { words = closed s; line = n + 1; comment = false; under_way = [] })
    (cond b s (cond blank (record s { words = closed s; under_way = [] })
    (cond hash (record s { words = closed s; under_way = []; comment = true }) (record s { under_way = w ++ c ∷ [] }))))) cs
    ≡ map numeral_of ws ++ cond line (told_if (under w) n ++ arriving None false (n + 1) cs)
    (cond b (arriving (under w) b n cs) (cond blank (told_if (under w) n ++ arriving None false n cs)
    (cond hash (told_if (under w) n ++ arriving None true n cs) (arriving (Some (grown_on (under w) c)) false n cs))))
step_at ws n b w c cs true blank hash = goes_on ws n w (arriving None false (n + 1) cs)
step_at ws n true w c cs false blank hash = refl
step_at ws n false w c cs false true hash = goes_on ws n w (arriving None false n cs)
step_at ws n false w c cs false false true = goes_on ws n w (arriving None true n cs)
step_at ws n false w c cs false false false = ap (λ (o : Option Token). map numeral_of ws ++ arriving o false n cs) (grows w c)

whole : (bs : List ℕ) (s : Lexed) → map numeral_of (closed (lexed Off s bs)) ≡ shown s bs
whole [] s = closes s.words s.line s.under_way
whole (c ∷ cs) s = whole cs (next Off s c) ∙ step_at s.words s.line s.comment s.under_way c cs (c == 10) (is_blank c) (c == 35)

pub arriving-all : (bs : List ℕ) → arriving None false 1 bs ≡ numerals_in bs
arriving-all bs = sym (whole bs start) ∙ ap (map numeral_of) (off_words-lexed bs)
