-- The words of bytes that are read one at a time are the data words of the whole text.
use Rattle.std.proofs.Common.{◌≡◌, ◌∙◌, ◌++◌, [], ◌∷◌, ◌+◌, ◌==◌, ℕ, ◌<◌, length, List, Bool, true, false, cond, refl, ap, sym, subst, arith, filter}
use Rattle.std.proofs.{Common.append_assoc, lemmas.List.append-nil, lemmas.List.Splits.slice_split-cons_no, lemmas.List.Splits.length-slice_split}
use Rattle.{std.specs.List.slice_split, std.specs.List.onto_first, qh_model.specs.declared.form.Form.Form, qh_model.specs.declared.form.Form.TheVariants.Qhull}
use Rattle.qh_model.specs.headline.Words.{Word, is_blank, is_data, lines_of, words_of, before_comment, on_line, words_from, data_words, is_word}
use Rattle.qh_model.proofs.texts.Lines.{Clear, split_clear, split_whole}
use Rattle.qh_read.proofs.Lexing.{Lexed, start, ended, closed, marked, next, lexed}

pub push_cond : {A B : Type 0} (f : A → B) (b : Bool) (x y : A) (u v : B) → (b ≡ true → f x ≡ u) → (b ≡ false → f y ≡ v) → f (cond b x y) ≡ cond b u v
push_cond f true x y u v p q = p refl
push_cond f false x y u v p q = q refl

-- ---- common to both forms: `parts` are the words of a line
-- the words of a line that continues with these bytes, in a comment or not
abbrev pub own : (List ℕ → List (List ℕ)) → Bool → List ℕ → List (List ℕ)
own parts true w = []
own parts false w = parts w

-- the words that lines add to those read before them
abbrev pub rest : (List ℕ → List (List ℕ)) → ℕ → Bool → List ℕ → List (List ℕ) → List Word
rest parts line comment w [] = []
rest parts line comment w (l ∷ ls) = on_line line (own parts comment (w ++ l)) ++ words_from parts (line + 1) ls

-- a list without bytes of a kind, and one more byte of another kind
pub clear_append : (p : ℕ → Bool) (w : List ℕ) (c : ℕ) → Clear p w → p c ≡ false → Clear p (w ++ c ∷ [])
clear_append p [] c h e = (e, tt)
clear_append p (b ∷ w) c (nb, h) e = (nb, clear_append p w c h e)

pub in_cond : {A : Type 0} (P : A → Type 0) (b : Bool) (x y : A) → (b ≡ true → P x) → (b ≡ false → P y) → P (cond b x y)
in_cond P true x y f g = f refl
in_cond P false x y f g = g refl

-- the unfinished word has no blank and is plain, and there is none in a comment
pub record Valid (Plain : List ℕ → Type 0) (s : Lexed) : Type 0 where
  pub clean : Clear is_blank s.under_way
  pub plain : Plain s.under_way
  pub quiet : s.comment ≡ true → s.under_way ≡ []

-- the effect of one byte
pub record Good (parts : List ℕ → List (List ℕ)) (Plain : List ℕ → Type 0) (s : Lexed) (c : ℕ) (over : Bool) (t : Lexed) : Type 0 where
  pub valid : Valid Plain t
  pub same : (l : List ℕ) (ls : List (List ℕ)) → t.words ++ rest parts t.line t.comment t.under_way (l ∷ ls)
      ≡ s.words ++ rest parts s.line s.comment s.under_way (cond over ([] ∷ l ∷ ls) (onto_first c (l ∷ ls)))

-- there is always at least one line
some_line : (bs : List ℕ) → 0 < length (lines_of bs)
some_line bs = omega (arith, length-slice_split (λ c. c == 10) bs)

-- the induction over all bytes, given what ends a word of a line and the effect of a byte that is not a blank
module _ (form : Form) (parts : List ℕ → List (List ℕ)) (Plain : List ℕ → Type 0) (none : Plain [])
    (ends : (n : ℕ) (w : List ℕ) → Clear is_blank w → Plain w → ended n w ≡ on_line n (parts (w ++ [])))
    (blank_ends : (n : ℕ) (w : List ℕ) (c : ℕ) (l : List ℕ) → Clear is_blank w → Plain w → is_blank c ≡ true
    → on_line n (parts (w ++ c ∷ l)) ≡ ended n w ++ on_line n (parts l))
    (marks : (ws : List Word) (n : ℕ) (w : List ℕ) (c : ℕ) → let s : Lexed = record { words = ws; line = n; comment = false; under_way = w } in
    Valid Plain s → is_blank c ≡ false → Good parts Plain s c false (marked form s c)) where
  -- a line ends, with or without a comment
  line_ends : (n : ℕ) (b : Bool) (w : List ℕ) → Clear is_blank w → Plain w → (b ≡ true → w ≡ []) → ended n w ≡ on_line n (own parts b (w ++ []))
  line_ends n true w h d q = subst (λ (t : List ℕ). ended n t ≡ []) (sym (q refl)) refl
  line_ends n false w h d q = ends n w h d

  good_at : (ws : List Word) (n : ℕ) (b : Bool) (w : List ℕ) (c : ℕ) (over : Bool)
      → let s : Lexed = record { words = ws; line = n; comment = b; under_way = w } in
      Valid Plain s → Good parts Plain s c over (cond over (record { words = closed s; line = n + 1; comment = false; under_way = [] })
      (cond b s (cond (is_blank c) (record s { words = closed s; under_way = [] }) (marked form s c))))
  good_at ws n b w c true v =
      record {
        valid = record { clean = tt; plain = none; quiet = λ q. refl };
        same = λ l ls. append_assoc ws (ended n w) _ ∙ ap (λ t. ws ++ (t ++ words_from parts (n + 1) (l ∷ ls))) (line_ends n b w v.clean v.plain v.quiet);
      }
  good_at ws n true w c false v = record { valid = v; same = λ l ls. refl }
  good_at ws n false w c false v =
      let s : Lexed = record { words = ws; line = n; comment = false; under_way = w } in
      in_cond (Good parts Plain s c false) (is_blank c) (record s { words = closed s; under_way = [] }) (marked form s c)
      (λ e. record {
        valid = record { clean = tt; plain = none; quiet = λ q. refl };
        same = λ l ls. append_assoc ws (ended n w) _
            ∙ ap (λ t. ws ++ t) (sym (append_assoc (ended n w) (on_line n (parts l)) (words_from parts (n + 1) ls)))
            ∙ ap (λ t. ws ++ (t ++ words_from parts (n + 1) ls)) (sym (blank_ends n w c l v.clean v.plain e));
      })
      (λ e. marks ws n w c v e)

  good : (s : Lexed) (c : ℕ) → Valid Plain s → Good parts Plain s c (c == 10) (next form s c)
  good s c v = good_at s.words s.line s.comment s.under_way c (c == 10) v

  total : (bs : List ℕ) (s : Lexed) → Valid Plain s → closed (lexed form s bs) ≡ s.words ++ rest parts s.line s.comment s.under_way (lines_of bs)
  total [] s v = ap (λ t. s.words ++ t) (line_ends s.line s.comment s.under_way v.clean v.plain v.quiet ∙ sym (append-nil _))
  total (c ∷ cs) s v = total cs (next form s c) (good s c v).valid
      ∙ (let n = next form s c in elim (lines_of cs) as (λ ls. 0 < length ls → n.words ++ rest parts n.line n.comment n.under_way ls
      ≡ s.words ++ rest parts s.line s.comment s.under_way (cond (c == 10) ([] ∷ ls) (onto_first c ls)))
      [ [] ↦ λ h. absurd (omega arith) | l ∷ ls ↦ λ h. (good s c v).same l ls ] (some_line cs))

  pub lexed_whole : (bs : List ℕ) → closed (lexed form start bs) ≡ words_from parts 1 (lines_of bs)
  lexed_whole bs = total bs start (record { clean = tt; plain = none; quiet = λ q. refl })
      ∙ elim (lines_of bs) as (λ ls. 0 < length ls → rest parts 1 false [] ls ≡ words_from parts 1 ls)
      [ [] ↦ λ h. absurd (omega arith) | l ∷ ls ↦ λ h. refl ] (some_line bs)

-- ---- a point file
-- the words of a line
abbrev line_words : List ℕ → List (List ℕ)
line_words w = before_comment (words_of w)

-- bytes with this beginning are not a comment
abbrev data_or_none : List ℕ → Type 0
data_or_none [] = Unit {0}
data_or_none (c ∷ w) = is_data (c ∷ []) ≡ true

-- the unfinished word is the only one of a line that ends here
ends : (n : ℕ) (w : List ℕ) → Clear is_blank w → data_or_none w → ended n w ≡ on_line n (line_words (w ++ []))
ends n [] h d = refl
ends n (c ∷ w) h d =
    sym (ap (λ t. on_line n (before_comment (filter is_word t))) (ap (slice_split is_blank) (append-nil (c ∷ w)) ∙ split_whole is_blank (c ∷ w) h)
    ∙ ap (λ t. on_line n (cond t ((c ∷ w) ∷ []) [])) d)

-- a blank ends the unfinished word
blank_ends : (n : ℕ) (w : List ℕ) (c : ℕ) (l : List ℕ) → Clear is_blank w → data_or_none w → is_blank c ≡ true
    → on_line n (line_words (w ++ c ∷ l)) ≡ ended n w ++ on_line n (line_words l)
blank_ends n [] c l h d e = ap (λ t. on_line n (before_comment (filter is_word t))) (split_clear is_blank [] c l h e)
blank_ends n (b ∷ w) c l h d e =
    ap (λ t. on_line n (before_comment (filter is_word t))) (split_clear is_blank (b ∷ w) c l h e)
    ∙ ap (λ t. on_line n (cond t ((b ∷ w) ∷ before_comment (words_of l)) [])) d

-- a word that does not begin as data is not a data word, and neither is any word after it
onto_other : (c : ℕ) (parts : List (List ℕ)) → is_data (c ∷ []) ≡ false → before_comment (filter is_word (onto_first c parts)) ≡ []
onto_other c [] e = ap (λ t. cond t ((c ∷ []) ∷ []) []) e
onto_other c (part ∷ parts) e = ap (λ t. cond t ((c ∷ part) ∷ before_comment (filter is_word parts)) []) e

comments : (c : ℕ) (l : List ℕ) → is_blank c ≡ false → is_data (c ∷ []) ≡ false → line_words (c ∷ l) ≡ []
comments c l nb e = ap (λ t. before_comment (filter is_word t)) (slice_split-cons_no is_blank c l nb) ∙ onto_other c (slice_split is_blank l) e

-- a byte continues a data word, or begins one or a comment
begins : (ws : List Word) (n : ℕ) (w : List ℕ) (c : ℕ) → let s : Lexed = record { words = ws; line = n; comment = false; under_way = w } in
    Valid data_or_none s → is_blank c ≡ false → Good line_words data_or_none s c false (marked Qhull s c)
begins ws n [] c v nb =
    let s : Lexed = record { words = ws; line = n; comment = false; under_way = [] } in
    in_cond (Good line_words data_or_none s c false) (is_data (c ∷ [])) (record s { under_way = c ∷ [] }) (record s { comment = true })
    (λ e. record { valid = record { clean = (nb, tt); plain = e; quiet = λ q. cc }; same = λ l ls. refl })
    (λ e. record {
      valid = record { clean = tt; plain = tt; quiet = λ q. refl };
      same = λ l ls. ap (λ t. ws ++ (on_line n t ++ words_from line_words (n + 1) ls)) (sym (comments c l nb e));
    })
begins ws n (b ∷ w) c v nb =
    record {
      valid = record { clean = clear_append is_blank (b ∷ w) c v.clean nb; plain = v.plain; quiet = λ q. cc };
      same = λ l ls. ap (λ t. ws ++ (on_line n (before_comment (words_of (b ∷ t))) ++ words_from line_words (n + 1) ls)) (append_assoc w (c ∷ []) l);
    }

pub data_words-lexed : (bs : List ℕ) → closed (lexed Qhull start bs) ≡ data_words bs
data_words-lexed bs = lexed_whole Qhull line_words data_or_none tt ends blank_ends begins bs
