-- Ids of a list that are gathered one by one, except those that are skipped.
use Rattle.qh_model.proofs.Common.{◌≡◌, ℕ, ◌+◌, ◌<◌, ◌⊎◌, inl, inr, List, [], ◌∷◌, ◌++◌, length, slice_index, sym, subst, arith, ◌∙◌, cases_lt, In}
use Rattle.qh_model.proofs.{Members.In-get_or, lists.Joined.in_append, lists.Joined.of_append}

-- of the first n ids, each is gathered, or skipped because of P
pub record AreLeftOf (P : ℕ → Type 0) (ids left : List ℕ) (n : ℕ) : Type 0 where
  pub each : (k : ℕ) → k < n → In (slice_index ids k) left ⊎ P (slice_index ids k)
  pub only : (l : ℕ) → In l left → In l ids

-- at the start no id is gathered
pub none_left : (P : ℕ → Type 0) (ids left : List ℕ) → left ≡ [] → AreLeftOf P ids left 0
none_left P ids left e = record { each = λ k h. absurd (omega arith); only = λ l i. absurd (subst (In l) e i) }

-- one more id is skipped or gathered
pub one_more : (P : ℕ → Type 0) (ids left more : List ℕ) (n x : ℕ) → AreLeftOf P ids left n → n < length ids
    → x ≡ slice_index ids n → (P x × (more ≡ left)) ⊎ (more ≡ left ++ x ∷ []) → AreLeftOf P ids more (n + 1)
one_more P ids left more n x a within is (inl (over, e)) = record {
  each = λ k h. elim (cases_lt k n) [
    | inl l ↦ subst (λ xs. In (slice_index ids k) xs ⊎ P (slice_index ids k)) (sym e) (a.each k l)
    | inr g ↦ (let same : n ≡ k = omega arith in inr (subst (λ i. P (slice_index ids i)) same (subst P is over)))
  ];
  only = λ l i. a.only l (subst (In l) e i);
}
one_more P ids left more n x a within is (inr e) = record {
  each = λ k h. elim (cases_lt k n) [
    | inl l ↦ elim (a.each k l) [ inl i ↦ inl (subst (In (slice_index ids k)) (sym e) (in_append left (x ∷ []) _ (inl i))) | inr over ↦ inr over ]
    | inr g ↦ (let same : n ≡ k = omega arith in
        inl (subst (λ i. In (slice_index ids i) more) same (subst (In (slice_index ids n)) (sym e) (in_append left (x ∷ []) _ (inr (inl (sym is)))))))
  ];
  only = λ l i. elim (of_append left (x ∷ []) l (subst (In l) e i)) [
    | inl o ↦ a.only l o
    | inr (inl s) ↦ subst (λ j. In j ids) (sym (s ∙ is)) (In-get_or ids n 0 within)
    | inr (inr n) ↦ absurd n
  ];
}
