-- One more number.
use Rattle.qh_model.proofs.Common.{◌≡◌, ◌∙◌, ◌+◌, ℕ, List, [], ◌∷◌, ◌++◌, rules, sym, ap, zero-add, range_with_len}
use Rattle.std.proofs.lemmas.List.{map-id, FromFn.map-range_with_len_more}
use Rattle.qh_block.proofs.regions.cells.numbers_below.Goals as goal

-- the range with the next number
range_more : (n : ℕ) → range_with_len 0 (n + 1) ≡ range_with_len 0 n ++ n ∷ []
range_more n =
    sym (map-id (range_with_len 0 (n + 1))) ∙ map-range_with_len_more (λ (k : ℕ). k) 0 n n (zero-add n)
    ∙ ap (λ (xs : List ℕ). xs ++ n ∷ []) (map-id (range_with_len 0 n))

pub loop-number-preserved : goal.loop-number-preserved
loop-number-preserved c =
    let so_far = c.loop-number.invariant in let number = c.loop-number.number in
    (c.push_reserved.ensures.items ∙ ap (λ (xs : List ℕ). xs ++ number ∷ []) so_far.0 ∙ sym (range_more number), search rules, search rules)
