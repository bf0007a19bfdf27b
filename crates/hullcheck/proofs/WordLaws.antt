-- The settings that the words of a command line specify, word by word.
use Rattle.std.proofs.Common.{◌≡◌, ℕ, ◌≤◌, Bool, true, false, List, [], ◌∷◌, Option, Some, None, length, arith, ap, sym, refl, codes}
use Rattle.std.proofs.lemmas.Bool.{and_from, and_parts, le-leb, leb-true, lt-ltb, ltb-true}
use Rattle.std.proofs.lemmas.Str.Parse.{IsNumeralModel, numerals_by_value, tells_all_ascii_digits}
use Rattle.std.specs.{Str.all_ascii_digits, Str.bytes_eq, Option.option_and_then, Str.Parse.IsNumeral, Str.Parse.digits_value, Str.Parse.without_leading_plus}
use Rattle.qh_model.specs.declared.limits.TheConstants.{WORKER_LIMIT}
use Rattle.hullcheck.specs.contract.CommandLine.{Asked, is_number_of_workers, with_word, with_words, workers_in}
use Rattle.hullcheck.specs.steps.Words.{with_number}

own : IsNumeralModel (λ ds. all_ascii_digits ds ≡ true) (digits_value 10)
own = numerals_by_value _ tells_all_ascii_digits

-- a numeral from 1 to the limit is a number of workers
pub number_of_workers : (word : List ℕ) (n : ℕ) → IsNumeral 10 (without_leading_plus word) → n ≡ digits_value 10 (without_leading_plus word)
    → 1 ≤ n → n ≤ WORKER_LIMIT → workers_in word ≡ Some n
number_of_workers word n h e low high =
    let digits : List ℕ = without_leading_plus word in
    let value : ℕ = digits_value 10 digits in
    let test : is_number_of_workers digits ≡ true = and_from _ _ (and_from _ _ (lt-ltb 0 (length digits) h.0) (own.from digits h.1))
    (and_from _ _ (le-leb 1 value (omega arith)) (le-leb value WORKER_LIMIT (omega arith))) in
    rw test (ap Some (sym e))

-- no other word is a number of workers
pub no_workers : (word : List ℕ)
    → (IsNumeral 10 (without_leading_plus word) → 1 ≤ digits_value 10 (without_leading_plus word)
    → digits_value 10 (without_leading_plus word) ≤ WORKER_LIMIT → ⊥)
    → workers_in word ≡ None
no_workers word h = by_test (is_number_of_workers (without_leading_plus word)) refl
  where
    by_test : (b : Bool) → is_number_of_workers (without_leading_plus word) ≡ b → workers_in word ≡ None
    by_test true e =
        let digits : List ℕ = without_leading_plus word in
        let value : ℕ = digits_value 10 digits in
        let (numeral, range) = and_parts _ _ e in
        let (some, all) = and_parts _ _ numeral in
        let (low, high) = and_parts _ _ range in
        absurd (h (ltb-true 0 (length digits) some, own.to digits all) (leb-true 1 value low) (leb-true value WORKER_LIMIT high))
    by_test false e = rw e refl

-- the word after `--workers` is their number
pub number_behind : (asked : Asked) (word : List ℕ) (rest : List (List ℕ)) → bytes_eq word (codes "--workers") ≡ true
    → with_words asked (word ∷ rest) ≡ with_number asked rest
number_behind asked word [] e = rw e refl
number_behind asked word (next ∷ rest) e = rw e refl

-- any other word is processed before those after it
pub word_before : (asked : Asked) (word : List ℕ) (rest : List (List ℕ)) → bytes_eq word (codes "--workers") ≡ false
    → with_words asked (word ∷ rest) ≡ option_and_then (λ more. with_words more rest) (with_word asked word)
word_before asked word [] e = rw e (alone (with_word asked word))
  where
    alone : (taken : Option Asked) → taken ≡ option_and_then (λ more. with_words more []) taken
    alone (Some more) = refl
    alone None = refl
word_before asked word (next ∷ rest) e = rw e refl
