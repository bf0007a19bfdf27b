-- The state of a reader is determined by the words of its bytes.
use Rattle.qh_model.proofs.Common.{◌≡◌, ◌∙◌, ◌++◌, [], ◌∷◌, ◌+◌, ◌-◌, ◌*◌, ◌==◌, ℕ, List, Bool, true, false}
use Rattle.qh_model.proofs.Common.{cond, refl, ap, sym, arith, nat_tests, append-nil, is_ascii_digit, ℤ, Option, codes, bytes_eq, Word, is_blank, is_data}
use Rattle.qh_model.specs.declared.form.Form.{Form, TheVariants.Qhull, TheVariants.Off}
use Rattle.qh_read.proofs.Lexing.{Lexed, start, ended, closed, begun, marked, next, lexed, words_in}
use Rattle.qh_read.proofs.{LexingLaws.in_cond, LexingLaws.push_cond, LexingLaws.data_words-lexed, ProgressLaws.judged}
use Rattle.qh_read.proofs.{ProgressLaws.judged-append, OffLexingLaws.off_words-lexed, TokenLaws.grown_by, TokenLaws.value-number, TokenLaws.keyword-off}
use Rattle.qh_read.specs.contract.Holding.{Held, held_at_start, word_ended, held_begun, held_marked, ended_held, next_held, held_by}
use Rattle.qh_read.specs.contract.{Progress.Progress, Progress.started, Progress.after, Tokens.cap, Tokens.grown, Tokens.value_of, Tokens.is_keyword}
use Rattle.qh_read.specs.declared.token.Token.{Token, TheVariants.Empty, TheVariants.Sign, TheVariants.Digits, TheVariants.Keyword, TheVariants.Other}

-- the state after bytes that are split into words
abbrev pub held_of : Form → Lexed → Held
held_of form s = record { form = form; progress = judged (started form) s.words; token = grown_by Empty s.under_way; comment = s.comment; line = s.line }

-- there is an unfinished word
abbrev solid : Token → Type 0
solid Empty = ⊥
solid t = Unit {0}

solid_grown : (t : Token) (c : ℕ) → solid (grown t c)
solid_grown Empty c =
    let keyword : Token = cond (c == 79) (Keyword 1) Other in
    let digit : Token = cond (is_ascii_digit c) (Digits false (c - 48)) keyword in
    in_cond solid (c == 43) (Sign false) (cond (c == 45) (Sign true) digit) (λ e. tt) (λ e. in_cond solid (c == 45) (Sign true) digit (λ e. tt)
    (λ e. in_cond solid (is_ascii_digit c) (Digits false (c - 48)) keyword (λ e. tt) (λ e. in_cond solid (c == 79) (Keyword 1) Other (λ e. tt) (λ e. tt))))
solid_grown (Sign minus) c = in_cond solid (is_ascii_digit c) (Digits minus (c - 48)) Other (λ e. tt) (λ e. tt)
solid_grown (Digits minus n) c = in_cond solid (is_ascii_digit c) (Digits minus (cap (10 * n + (c - 48)))) Other (λ e. tt) (λ e. tt)
solid_grown (Keyword letters) c =
    let third : Token = cond (letters == 2) (Keyword 3) Other in
    in_cond solid (c == 70) (cond (letters == 1) (Keyword 2) third) Other
    (λ e. in_cond solid (letters == 1) (Keyword 2) third (λ e. tt) (λ e. in_cond solid (letters == 2) (Keyword 3) Other (λ e. tt) (λ e. tt))) (λ e. tt)
solid_grown Other c = tt

solid_by : (w : List ℕ) (t : Token) → solid t → solid (grown_by t w)
solid_by [] t h = h
solid_by (c ∷ w) t h = solid_by w (grown t c) (solid_grown t c)

ended_solid : (p : Progress) (t : Token) (n : ℕ) → solid t → word_ended p t n ≡ after p (is_keyword t) (value_of t) n
ended_solid p Empty n h = absurd h
ended_solid p t n h = refl

begun_solid : (h : Held) (t : Token) (c : ℕ) → solid t → held_begun h t c ≡ record h { token = grown t c }
begun_solid h Empty c s = absurd s
begun_solid h t c s = refl

word_ends : (p : Progress) (ws : List Word) (n : ℕ) (w : List ℕ) → judged p (ws ++ ended n w) ≡ word_ended (judged p ws) (grown_by Empty w) n
word_ends p ws n [] = ap (judged p) (append-nil ws)
word_ends p ws n (c ∷ w) =
    judged-append p ws (ended n (c ∷ w)) ∙ ap (λ (o : Option ℤ). after (judged p ws) (bytes_eq (c ∷ w) (codes "OFF")) o n) (sym (value-number (c ∷ w)))
    ∙ ap (λ (b : Bool). after (judged p ws) b (value_of (grown_by Empty (c ∷ w))) n) (sym (keyword-off (c ∷ w)))
    ∙ sym (ended_solid (judged p ws) (grown_by Empty (c ∷ w)) n (solid_by w (grown Empty c) (solid_grown Empty c)))

pub grown_more : (w : List ℕ) (t : Token) (c : ℕ) → grown_by t (w ++ c ∷ []) ≡ grown (grown_by t w) c
grown_more [] t c = refl
grown_more (b ∷ w) t c = grown_more w (grown t b) c

begins : (ws : List Word) (n : ℕ) (b : Bool) (w : List ℕ) (c : ℕ) → let s : Lexed = record { words = ws; line = n; comment = b; under_way = w } in
    held_of Qhull (begun s w c) ≡ held_begun (held_of Qhull s) (grown_by Empty w) c
begins ws n b [] c = push_cond (held_of Qhull) (is_data (c ∷ [])) _ _ _ _ (λ e. refl) (λ e. refl)
begins ws n b (a ∷ w) c =
    let s : Lexed = record { words = ws; line = n; comment = b; under_way = a ∷ w } in
    rw (grown_more (a ∷ w) Empty c) (sym (begun_solid (held_of Qhull s) (grown_by Empty (a ∷ w)) c (solid_by w (grown Empty a) (solid_grown Empty a))))

-- a digit continues a word, or begins one
digit_begun : (h : Held) (t : Token) (c : ℕ) → is_ascii_digit c ≡ true → held_begun h t c ≡ record h { token = grown t c }
digit_begun h Empty c e = rw e refl
digit_begun h t c e = refl

digit_marked : (form : Form) (h : Held) (c : ℕ) → is_ascii_digit c ≡ true → held_marked form h c ≡ record h { token = grown h.token c }
digit_marked Qhull h c e = digit_begun h h.token c e
digit_marked Off h c e =
    let plain : (c == 35) ≡ false = grind (arith, nat_tests) in rw plain refl

-- treating a digit separately makes no difference
told_digit : (form : Form) (h : Held) (c : ℕ) (b : Bool) → is_ascii_digit c ≡ b
    → held_marked form h c ≡ cond b (record h { token = grown h.token c }) (held_marked form h c)
told_digit form h c true e = digit_marked form h c e
told_digit form h c false e = refl

marks : (form : Form) (s : Lexed) (c : ℕ) → held_of form (marked form s c) ≡ held_marked form (held_of form s) c
marks Qhull s c = begins s.words s.line s.comment s.under_way c
marks Off s c =
    push_cond (held_of Off) (c == 35) _ _ _ _
    (λ e. rw (word_ends (started Off) s.words s.line s.under_way) refl) (λ e. rw (grown_more s.under_way Empty c) refl)

steps : (form : Form) (s : Lexed) (c : ℕ) → held_of form (next form s c) ≡ next_held (held_of form s) c
steps form s c =
    push_cond (held_of form) (c == 10) _ _ _ _
    (λ e. rw (word_ends (started form) s.words s.line s.under_way) refl) (λ e. push_cond (held_of form) s.comment _ _ _ _ (λ f. refl)
    (λ f. push_cond (held_of form) (is_blank c) _ _ _ _ (λ g. rw (word_ends (started form) s.words s.line s.under_way) refl)
    (λ g. marks form s c ∙ told_digit form (held_of form s) c (is_ascii_digit c) refl)))

runs : (form : Form) (bs : List ℕ) (s : Lexed) → held_of form (lexed form s bs) ≡ held_by (held_of form s) bs
runs form [] s = refl
runs form (c ∷ cs) s = runs form cs (next form s c) ∙ ap (λ (h : Held). held_by h cs) (steps form s c)

words-lexed : (form : Form) (bs : List ℕ) → closed (lexed form start bs) ≡ words_in form bs
words-lexed Qhull bs = data_words-lexed bs
words-lexed Off bs = off_words-lexed bs

pub progress-words : (form : Form) (bs : List ℕ) → (ended_held (held_by (held_at_start form) bs)).progress ≡ judged (started form) (words_in form bs)
progress-words form bs =
    let s = lexed form start bs in
    ap (λ (h : Held). (ended_held h).progress) (sym (runs form bs start)) ∙ sym (word_ends (started form) s.words s.line s.under_way)
    ∙ ap (judged (started form)) (words-lexed form bs)

pub held_by-append : (h : Held) (xs bs : List ℕ) → held_by h (xs ++ bs) ≡ held_by (held_by h xs) bs
held_by-append h [] bs = refl
held_by-append h (a ∷ xs) bs = held_by-append (next_held h a) xs bs
