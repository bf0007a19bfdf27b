-- A search through the first numbers, and a walk in a list that returns to its start.
use Rattle.qh_model.proofs.Common.{◌≡◌, ℕ, zero, suc, ◌+◌, ◌<◌, List, length, get_or, arith, ap, sym, ◌∙◌, ◌⊎◌, inl, inr, ⊎_elim, ℕ_discrete, In}
use Rattle.qh_model.proofs.{Members.in_at, lists.Ranges.pigeon}

-- a number for which P holds, or no such number below n
look : (P : ℕ → Type 0) → ((i : ℕ) → Dec (P i)) → (n : ℕ) → ((i : ℕ) × P i) ⊎ ((i : ℕ) → i < n → ¬ (P i))
look P test zero = inr (λ i h. absurd (omega arith))
look P test (suc n) = by_decision (test zero) (look (λ i. P (suc i)) (λ i. test (suc i)) n)
  where
    by_decision : Dec (P zero) → ((i : ℕ) × P (suc i)) ⊎ ((i : ℕ) → i < n → ¬ (P (suc i))) → ((i : ℕ) × P i) ⊎ ((i : ℕ) → i < suc n → ¬ (P i))
    by_decision (yes p) r = inl (zero, p)
    by_decision (no q) (inl r) = inl (suc r.0, r.1)
    by_decision (no q) (inr r) = inr none
      where
        none : (i : ℕ) → i < suc n → ¬ (P i)
        none zero h = q
        none (suc i) h = r i (omega arith)

-- a walk that stays among the members of a list, and enters each place from only one other, returns to its first place
pub comes_back : (u : ℕ → ℕ) (xs : List ℕ) → ((i : ℕ) → In (u i) xs) → ((i j : ℕ) → u (suc i) ≡ u (suc j) → u i ≡ u j) → (k : ℕ) × (u (suc k) ≡ u zero)
comes_back u xs within one_way = ⊎_elim (λ r. r) (λ n. absurd (never n)) (look (λ k. u (suc k) ≡ u zero) (λ k. ℕ_discrete (u (suc k)) (u zero)) (length xs))
  where
    -- the first place that the walk visits again is its first place
    first_again : (i j : ℕ) → i < j → u i ≡ u j → (k : ℕ) × (k < j) × (u (suc k) ≡ u zero)
    first_again i zero h e = absurd (omega arith)
    first_again zero (suc j) h e = (j, omega arith, sym e)
    first_again (suc i) (suc j) h e = let r = first_again i j (omega arith) (one_way i j e) in let l = r.1 in (r.0, omega arith, r.2)

    -- a walk that never returned would visit more places than the list has
    never : ((k : ℕ) → k < length xs → u (suc k) ≡ u zero → ⊥) → ⊥
    never n = let e = pigeon (length xs) (length xs + 1) place (λ i h. (in_at xs (u i) (within i)).1) apart in absurd (omega arith)
      where
        place : ℕ → ℕ
        place i = (in_at xs (u i) (within i)).0

        apart : (i j : ℕ) → i < j → j < length xs + 1 → place i ≡ place j → ⊥
        apart i j h l e =
            let at_i = (in_at xs (u i) (within i)).2 in let at_j = (in_at xs (u j) (within j)).2 in
            let r = first_again i j h (sym at_i ∙ ap (λ k. get_or xs k 0) e ∙ at_j) in let b = r.1 in n r.0 (omega arith) r.2
