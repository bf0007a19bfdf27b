-- Rising lists of the blocks of spans.
use Rattle.qh_model.proofs.Common.{◌≡◌, inl, inr, ⊎_elim, ℕ, ◌+◌, ◌*◌, ◌<◌, ◌≤◌, List, [], ◌∷◌, ◌++◌, length, sym, refl, ◌∙◌, arith, eq-eqb, ne_eqb}
use Rattle.qh_model.proofs.Common.{IsPermutation, count_by, cond, sum_by-IsPermutation, sum_by-append, slice_index, ◌==◌, InSpan}
use Rattle.qh_model.proofs.board.Spans.{span_of_leaf, span_of_node, spans_apart}
use Rattle.qh_tests_run.specs.Rising.{IsRisingListOf}

-- the list of the block of a leaf
pub alone_rises : (blocks j : ℕ) → j < blocks → IsRisingListOf (InSpan blocks (blocks + j)) (j ∷ [])
alone_rises blocks j h = record {
  rises = λ k lt. absurd (omega arith);
  once = λ x s. let e : x ≡ j = (span_of_leaf blocks j x h).0 s in rw (eq-eqb j x (sym e)) refl;
  no_other = λ x n. rw (ne_eqb j x (λ e. n ((span_of_leaf blocks j x h).1 (sym e)))) refl;
}

-- the elements of both lists, in order
pub merge_rises : (blocks i : ℕ) (a b v : List ℕ) → 0 < i → i < blocks → IsRisingListOf (InSpan blocks (2 * i)) a
    → IsRisingListOf (InSpan blocks (2 * i + 1)) b → IsPermutation (a ++ b) v
    → ((k : ℕ) → k + 1 < length v → slice_index v k ≤ slice_index v (k + 1)) → IsRisingListOf (InSpan blocks i) v
merge_rises blocks i a b v lo hi ra rb same rises = record {
  rises = rises;
  once = λ j s. ⊎_elim
      (λ (t : InSpan blocks (2 * i) j). let x = ra.once j t in let y = rb.no_other j (spans_apart blocks i j lo t) in let c = count j in omega arith)
      (λ (t : InSpan blocks (2 * i + 1) j). let x = ra.no_other j (λ u. spans_apart blocks i j lo u t) in let y = rb.once j t in let c = count j in omega arith)
      ((span_of_node blocks i j lo hi).0 s);
  no_other = λ j n. let x = ra.no_other j (λ u. n ((span_of_node blocks i j lo hi).1 (inl u))) in
      let y = rb.no_other j (λ u. n ((span_of_node blocks i j lo hi).1 (inr u))) in let c = count j in omega arith;
}
  where
    count : (j : ℕ) → count_by (λ x. x == j) v ≡ count_by (λ x. x == j) a + count_by (λ x. x == j) b
    count j = sum_by-IsPermutation (λ x. cond (x == j) 1 0) (a ++ b) v same ∙ sum_by-append (λ x. cond (x == j) 1 0) a b
