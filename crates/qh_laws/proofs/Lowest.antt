-- Lowest ids: the first number for which a decided claim holds, and the first position of each point in the list.
use Rattle.qh_model.proofs.Common.{◌≡◌, ℕ, zero, suc, ◌<◌, ◌≤◌, inl, inr, List, refl, arith, place, Vector}
use Rattle.qh_model.proofs.Decisions.{Decided, same_vector}

-- the first number for which a claim holds
pub record First (P : ℕ → Type 0) (n : ℕ) : Type 0 where
  pub id : ℕ
  pub holds : P id
  pub below : id ≤ n
  pub first : (j : ℕ) → j < id → ¬ (P j)

-- there is a first number if a decided claim holds for some number
first_of : (P : ℕ → Type 0) → ((i : ℕ) → Decided (P i)) → (n : ℕ) → P n → First P n
first_of P d zero p = record { id = 0; holds = p; below = omega arith; first = λ j h. absurd (omega (arith, h)) }
first_of P d (suc n) p = by_cases (d 0) (first_of (λ i. P (suc i)) (λ i. d (suc i)) n p)
  where
    by_cases : Decided (P 0) → First (λ i. P (suc i)) n → First P (suc n)
    by_cases (inl q) r = record { id = 0; holds = q; below = omega arith; first = λ j h. absurd (omega (arith, h)) }
    by_cases (inr no_zero) r = record { id = suc r.id; holds = r.holds; below = let b = r.below in omega (arith, b); first = earlier }
      where
        earlier : (j : ℕ) → j < suc r.id → ¬ (P j)
        earlier zero h = no_zero
        earlier (suc j) h = r.first j (omega (arith, h))

-- the lowest id of the point of an id
pub lowest_id : (pts : List Vector) (i : ℕ) → First (λ j. place pts j ≡ place pts i) i
lowest_id pts i = first_of (λ j. place pts j ≡ place pts i) (λ j. same_vector (place pts j) (place pts i)) i refl
