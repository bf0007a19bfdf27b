-- Decided claims as truth values.
use Rattle.qh_model.proofs.Common.{◌≡◌, refl, sym, ◌⊎◌, inl, inr, Bool, true, false, both_ways}

-- the truth value of a claim
pub flag : {P : Type 0} → P ⊎ (¬ P) → Bool
flag (inl p) = true
flag (inr n) = false

-- a claim with the value true holds
pub flag-holds : {P : Type 0} (d : P ⊎ (¬ P)) → flag d ≡ true → P
unfolding flag
flag-holds (inl p) e = p
flag-holds (inr n) e = absurd (both_ways true (sym e) refl)

-- a claim that holds has the value true
pub flag-true : {P : Type 0} (d : P ⊎ (¬ P)) → P → flag d ≡ true
unfolding flag
flag-true (inl p) q = refl
flag-true (inr n) q = absurd (n q)
