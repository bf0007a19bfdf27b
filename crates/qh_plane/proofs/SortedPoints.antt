-- Numbers that rise from each to the next, or fall, do not repeat.
use Rattle.qh_model.proofs.Common.{◌≡◌, ℕ, zero, suc, ◌+◌, ◌-◌, ◌<◌, ◌≤◌, ◌⊎◌, inl, inr, List, length, arith, ap, subst, add-one, slice_index_or, cases_lt}
use Rattle.{qh_model.proofs.Common.place, qh_model.proofs.Common.Vector, qh_plane.proofs.SeenPlaces.point_read, qh_plane.specs.steps.HashedKeys.place_number}
use Rattle.qh_plane.specs.steps.SortedPoints.{NumbersRise, NumbersFall, AllDiffer}

-- a transitive relation of neighbours holds between each element and any later one
along : (R : ℕ → ℕ → Type 0) (f : ℕ → ℕ) (n : ℕ) → ((a b c : ℕ) → R a b → R b c → R a c) → ((j : ℕ) → j + 1 < n → R (f j) (f (j + 1)))
    → (i j : ℕ) → i < j → j < n → R (f i) (f j)
along R f n t h i zero l m = absurd (omega (arith, l))
along R f n t h i (suc j) l m = in_order (λ e. along R f n t h i j e (omega (arith, m))) (cases_lt i j)
  where
    step : R (f j) (f (suc j))
    step = subst (λ k. R (f j) (f k)) (add-one j) (h j (omega (arith, m)))

    in_order : (i < j → R (f i) (f j)) → (i < j) ⊎ (j ≤ i) → R (f i) (f (suc j))
    in_order before (inl e) = t (f i) (f j) (f (suc j)) (before e) step
    in_order before (inr e) = let q : j ≡ i = omega (arith, l, e) in subst (λ k. R (f k) (f (suc j))) q step

module _ (pts : List Vector) where
  abbrev number : ℕ → ℕ
  number j = place_number (place pts j)

  -- the numbers of two points that were read are related, as those before them
  pub one_more : (R : ℕ → ℕ → Type 0) (j : ℕ) (p q : Vector) → 1 ≤ j → j < length pts → p ≡ slice_index_or pts (j - 1) p → q ≡ slice_index_or pts j q
      → R (place_number p) (place_number q) → ((k : ℕ) → k + 1 < j → k + 1 < length pts → R (number k) (number (k + 1)))
      → (k : ℕ) → k + 1 < j + 1 → k + 1 < length pts → R (number k) (number (k + 1))
  one_more R j p q one within before here last told k a b = by_cases (cases_lt (k + 1) j)
    where
      by_cases : (k + 1 < j) ⊎ (j ≤ k + 1) → R (number k) (number (k + 1))
      by_cases (inl l) = told k l b
      by_cases (inr l) = let s : k ≡ j - 1 = omega (arith, a, l, one) in let t : k + 1 ≡ j = omega (arith, a, l) in
          rw (t, s) (subst (λ v. R (place_number v) (number j)) (point_read pts (j - 1) p (omega (arith, one, within)) before)
          (subst (λ v. R (place_number p) (place_number v)) (point_read pts j q within here) last))

  -- so points with such numbers are all different
  pub rising_differ : NumbersRise pts → AllDiffer pts
  rising_differ h i j l m e =
      let r = along (λ a b. a < b) number (length pts) (λ a b c p q. omega (arith, p, q)) h i j l m in let q : number i ≡ number j = ap place_number e in
      omega (arith, r, q)

  pub falling_differ : NumbersFall pts → AllDiffer pts
  falling_differ h i j l m e =
      let r = along (λ a b. b < a) number (length pts) (λ a b c p q. omega (arith, p, q)) h i j l m in let q : number i ≡ number j = ap place_number e in
      omega (arith, r, q)
