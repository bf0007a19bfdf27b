-- The words of the bytes of an OFF file that are read one at a time are the words of the whole text.
use Rattle.qh_model.proofs.Common.{◌≡◌, ◌∙◌, ◌++◌, [], ◌∷◌, ◌+◌, ◌==◌, ℕ, List, Bool, true, false, cond, refl, ap, sym, append_assoc, arith}
use Rattle.qh_model.proofs.Common.{filter, nat_tests, append-nil, slice_split, before_hash, off_words, Word, is_blank, words_of, words_from, on_line, is_word}
use Rattle.qh_model.{proofs.texts.Lines.Clear, proofs.texts.Lines.split_clear, proofs.texts.Lines.split_whole, specs.declared.form.Form.TheVariants.Off}
use Rattle.qh_read.proofs.Lexing.{Lexed, start, ended, closed, marked, lexed}
use Rattle.qh_read.proofs.LexingLaws.{Good, Valid, clear_append, in_cond, lexed_whole}

abbrev is_hash : ℕ → Bool
is_hash c = c == 35

-- the words of a line
abbrev line_words : List ℕ → List (List ℕ)
line_words w = words_of (before_hash w)

-- a word has no `#`
hash_later : (w l : List ℕ) → Clear is_hash w → before_hash (w ++ l) ≡ w ++ before_hash l
hash_later [] l h = refl
hash_later (b ∷ w) l (n, h) = ap (λ (t : Bool). cond t [] (b ∷ before_hash (w ++ l))) n ∙ ap (λ (t : List ℕ). b ∷ t) (hash_later w l h)

-- the unfinished word is the only one in its bytes
only_word : (n : ℕ) (w : List ℕ) → Clear is_blank w → on_line n (words_of w) ≡ ended n w
only_word n [] h = refl
only_word n (c ∷ w) h = ap (λ t. on_line n (filter is_word t)) (split_whole is_blank (c ∷ w) h)

-- a line or its part before a comment ends
ends : (n : ℕ) (w l : List ℕ) → Clear is_blank w → Clear is_hash w → before_hash l ≡ [] → on_line n (line_words (w ++ l)) ≡ ended n w
ends n w l h d e = ap (λ (t : List ℕ). on_line n (words_of t)) (hash_later w l d ∙ ap (λ (t : List ℕ). w ++ t) e ∙ append-nil w) ∙ only_word n w h

-- a blank ends the unfinished word
blank_ends : (n : ℕ) (w : List ℕ) (c : ℕ) (l : List ℕ) → Clear is_blank w → Clear is_hash w → is_blank c ≡ true
    → on_line n (line_words (w ++ c ∷ l)) ≡ ended n w ++ on_line n (line_words l)
blank_ends n w c l h d e =
    let plain : is_hash c ≡ false = grind (arith, nat_tests, e) in
    ap (λ (t : List ℕ). on_line n (words_of t)) (hash_later w (c ∷ l) d ∙ ap (λ (t : Bool). w ++ cond t [] (c ∷ before_hash l)) plain)
    ∙ ap (λ t. on_line n (filter is_word t)) (split_clear is_blank w c (before_hash l) h e)
    ∙ elim w as (λ u. on_line n (filter is_word (u ∷ slice_split is_blank (before_hash l))) ≡ ended n u ++ on_line n (line_words l))
    [ [] ↦ refl | b ∷ u ↦ refl ]

-- a byte begins a comment, or continues a word or begins one
marks : (ws : List Word) (n : ℕ) (w : List ℕ) (c : ℕ) → let s : Lexed = record { words = ws; line = n; comment = false; under_way = w } in
    Valid (Clear is_hash) s → is_blank c ≡ false → Good line_words (Clear is_hash) s c false (marked Off s c)
marks ws n w c v nb =
    let s : Lexed = record { words = ws; line = n; comment = false; under_way = w } in
    in_cond (Good line_words (Clear is_hash) s c false) (c == 35) (record s { words = closed s; under_way = []; comment = true })
    (record s { under_way = w ++ c ∷ [] })
    (λ e. record {
      valid = record { clean = tt; plain = tt; quiet = λ q. refl };
      same = λ l ls. append_assoc ws (ended n w) (words_from line_words (n + 1) ls)
          ∙ ap (λ t. ws ++ (t ++ words_from line_words (n + 1) ls))
          (sym (ends n w (c ∷ l) v.clean v.plain (ap (λ (t : Bool). cond t [] (c ∷ before_hash l)) e)));
    })
    (λ e. record {
      valid = record { clean = clear_append is_blank w c v.clean nb; plain = clear_append is_hash w c v.plain e; quiet = λ q. cc };
      same = λ l ls. ap (λ (t : List ℕ). ws ++ (on_line n (words_of (before_hash t)) ++ words_from line_words (n + 1) ls)) (append_assoc w (c ∷ []) l);
    })

pub off_words-lexed : (bs : List ℕ) → closed (lexed Off start bs) ≡ off_words bs
off_words-lexed bs = lexed_whole Off line_words (Clear is_hash) tt (λ n w h d. sym (ends n w [] h d refl)) blank_ends marks bs
