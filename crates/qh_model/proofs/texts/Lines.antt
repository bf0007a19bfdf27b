-- Joined lines and spaced words, split again.
use Rattle.qh_model.proofs.Common.{◌≡◌, ℕ, suc, ◌+◌, ◌<◌, ◌==◌, Bool, true, false, cond, refl, List, [], ◌∷◌, ◌++◌, length, map, append_assoc, arith}
use Rattle.qh_model.proofs.Common.{sym, ap, ◌∙◌, ne_eqb, before_hash, line, Word, is_blank, lines_of, words_of, on_line, words_from}
use Rattle.std.proofs.lemmas.List.Splits.{slice_split-cons_yes, slice_split-cons_no}
use Rattle.std.specs.List.{AllByRecursion as Every, slice_split, onto_first, flat_map}
use Rattle.qh_model.proofs.{Members.every_map, texts.Decimals.IsOfNumber, texts.Decimals.IsNumberWord}

-- ---- splitting
module _ (p : ℕ → Bool) where
  -- no byte of the list splits
  abbrev pub Clear : List ℕ → Type 0
  Clear w = Every (λ c. p c ≡ false) w

  -- the bytes before the first byte that splits
  pub split_clear : (w : List ℕ) (c : ℕ) (l : List ℕ) → Clear w → p c ≡ true → slice_split p (w ++ c ∷ l) ≡ w ∷ slice_split p l
  split_clear [] c l h e = slice_split-cons_yes p c l e
  split_clear (b ∷ w) c l h e = slice_split-cons_no p b (w ++ c ∷ l) h.0 ∙ ap (onto_first b) (split_clear w c l h.1 e)

  -- a list without a byte that splits is one part
  pub split_whole : (w : List ℕ) → Clear w → slice_split p w ≡ w ∷ []
  split_whole [] h = refl
  split_whole (b ∷ w) h = slice_split-cons_no p b w h.0 ∙ ap (onto_first b) (split_whole w h.1)

-- a fact about the elements of two lists holds for both joined
pub every_append : {X : Type 0} (P : X → Type 0) (xs ys : List X) → Every P xs → Every P ys → Every P (xs ++ ys)
every_append P [] ys h k = k
every_append P (x ∷ xs) ys h k = (h.0, every_append P xs ys h.1 k)

-- ---- lines
-- the byte that ends a line
abbrev pub ends_line : ℕ → Bool
ends_line c = c == 10

-- a line, before other bytes
pub first_line : (l rest : List ℕ) → Clear ends_line l → lines_of (line l ++ rest) ≡ l ∷ lines_of rest
first_line l rest h = ap lines_of (append_assoc l (10 ∷ []) rest) ∙ split_clear ends_line l 10 rest h refl

-- many lines
pub joined_lines : {X : Type 0} (l : X → List ℕ) (xs : List X) (rest : List ℕ) → ((x : X) → Clear ends_line (l x))
    → lines_of (flat_map (λ x. line (l x)) xs ++ rest) ≡ map l xs ++ lines_of rest
joined_lines l [] rest h = refl
joined_lines l (x ∷ xs) rest h =
    ap lines_of (append_assoc (line (l x)) (flat_map (λ y. line (l y)) xs) rest)
    ∙ first_line (l x) (flat_map (λ y. line (l y)) xs ++ rest) (h x)
    ∙ ap (λ (t : List (List ℕ)). l x ∷ t) (joined_lines l xs rest h)

-- the words of some lines, and of those after them
pub words_from-append : (parts : List ℕ → List (List ℕ)) (n : ℕ) (ls ms : List (List ℕ))
    → words_from parts n (ls ++ ms) ≡ words_from parts n ls ++ words_from parts (n + length ls) ms
words_from-append parts n [] ms = ap (λ k. words_from parts k ms) (omega arith)
words_from-append parts n (l ∷ ls) ms =
    let next : n + 1 + length ls ≡ n + suc (length ls) = omega arith in
    ap (λ (t : List Word). on_line n (parts l) ++ t)
    (words_from-append parts (n + 1) ls ms ∙ ap (λ k. words_from parts (n + 1) ls ++ words_from parts k ms) next)
    ∙ sym (append_assoc (on_line n (parts l)) (words_from parts (n + 1) ls) (words_from parts (n + suc (length ls)) ms))

-- ---- words
-- a byte that begins a comment
abbrev pub is_hash : ℕ → Bool
is_hash c = c == 35

-- a line without a comment is data to its end
pub before_hash_clear : (l : List ℕ) → Clear is_hash l → before_hash l ≡ l
before_hash_clear [] h = refl
before_hash_clear (c ∷ cs) h = ap (λ (b : Bool). cond b [] (c ∷ before_hash cs)) h.0 ∙ ap (λ (t : List ℕ). c ∷ t) (before_hash_clear cs h.1)

-- a number has no blank, no `#`, and no end of a line
pub number_clear : (p : ℕ → Bool) → ((c : ℕ) → IsOfNumber c → p c ≡ false) → (w : List ℕ) → IsNumberWord w → Clear p w
number_clear p f w h = every_map IsOfNumber (λ c. p c ≡ false) w f h.1

-- no byte below `-` is one of a number
other_byte : (b c : ℕ) → b < 45 → IsOfNumber c → (c == b) ≡ false
other_byte b c l h = ne_eqb c b (λ e. omega (arith, h.0))

not_blank : (c : ℕ) → IsOfNumber c → is_blank c ≡ false
not_blank = grind arith

-- a word before a blank
first_word : (w l : List ℕ) → IsNumberWord w → words_of (w ++ 32 ∷ l) ≡ w ∷ words_of l
first_word = grind (arith, split_clear, number_clear, not_blank)

-- a word alone
last_word : (w : List ℕ) → IsNumberWord w → words_of w ≡ w ∷ []
last_word = grind (arith, split_whole, number_clear, not_blank)

-- ---- lines of three numbers
-- three words with a blank between
abbrev pub three : List ℕ → List ℕ → List ℕ → List ℕ
three u v w = u ++ 32 ∷ v ++ 32 ∷ w

-- the bytes of these words are those of numbers, except the blanks
three_clear : (p : ℕ → Bool) → ((c : ℕ) → IsOfNumber c → p c ≡ false) → p 32 ≡ false
    → (u v w : List ℕ) → IsNumberWord u → IsNumberWord v → IsNumberWord w → Clear p (three u v w)
three_clear = grind (arith, every_append, number_clear)

-- the words are in one line
pub three_in_line : (u v w : List ℕ) → IsNumberWord u → IsNumberWord v → IsNumberWord w → Clear ends_line (three u v w)
three_in_line = three_clear ends_line (λ c h. other_byte 10 c (omega arith) h) refl

-- the three words are the words of this line
pub three_words : (u v w : List ℕ) → IsNumberWord u → IsNumberWord v → IsNumberWord w → words_of (before_hash (three u v w)) ≡ u ∷ v ∷ w ∷ []
three_words u v w a b c =
    ap words_of (before_hash_clear (three u v w) (three_clear is_hash (λ k h. other_byte 35 k (omega arith) h) refl u v w a b c))
    ∙ ap words_of (append_assoc u (32 ∷ v) (32 ∷ w))
    ∙ first_word u (v ++ 32 ∷ w) a
    ∙ ap (λ (t : List (List ℕ)). u ∷ t) (first_word v w b ∙ ap (λ (t : List (List ℕ)). v ∷ t) (last_word w c))
