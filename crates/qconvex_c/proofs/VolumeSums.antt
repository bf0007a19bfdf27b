-- Sums of volumes over triangles in one list, three corners at a time.
use Rattle.qh_model.proofs.Common.{◌≡◌, ℕ, ◌+◌, ◌*◌, ◌/◌, ◌<◌, ℤ, pos, ◌+ℤ◌, suc, List, [], ◌∷◌, length}
use Rattle.qh_model.proofs.Common.{drop, get_or, refl, ap, sym, subst, ◌∙◌, arith, rules, drop-cons, length-drop, +ℤ_assoc, w128, FitsSigned, vol, Vector}
use Rattle.qconvex_c.specs.contract.Volumes.{six_volumes, PartialSumsFit}

-- the three corners of triangle k come before those of the next ones
pub next_three : (xs : List ℕ) (k : ℕ) → k < length xs / 3
    → drop (3 * k) xs ≡ get_or xs (3 * k) 0 ∷ get_or xs (3 * k + 1) 0 ∷ get_or xs (3 * k + 2) 0 ∷ drop (3 * (k + 1)) xs
next_three xs k h =
    let one : suc (3 * k) ≡ 3 * k + 1 = omega arith in
    let two : suc (suc (3 * k)) ≡ 3 * k + 2 = omega arith in
    let three : suc (suc (suc (3 * k))) ≡ 3 * (k + 1) = omega arith in
    let u = get_or xs (3 * k) 0 in
    drop-cons xs (3 * k) 0 (omega arith) ∙ ap (λ r. u ∷ r) (drop-cons xs (suc (3 * k)) 0 (omega arith))
    ∙ ap (λ r. u ∷ get_or xs (suc (3 * k)) 0 ∷ r) (drop-cons xs (suc (suc (3 * k))) 0 (omega arith))
    ∙ ap (λ i. u ∷ get_or xs i 0 ∷ get_or xs (suc (suc (3 * k))) 0 ∷ drop (suc (suc (suc (3 * k)))) xs) one
    ∙ ap (λ i. u ∷ get_or xs (3 * k + 1) 0 ∷ get_or xs i 0 ∷ drop (suc (suc (suc (3 * k)))) xs) two
    ∙ ap (λ i. u ∷ get_or xs (3 * k + 1) 0 ∷ get_or xs (3 * k + 2) 0 ∷ drop i xs) three

-- the elements after the last whole triangle contribute nothing
few_none : (at : ℕ → Vector) (o : Vector) (ys : List ℕ) → length ys < 3 → six_volumes at o ys ≡ pos 0
few_none at o [] h = refl
few_none at o (x ∷ []) h = refl
few_none at o (x ∷ y ∷ []) h = refl
few_none at o (x ∷ y ∷ z ∷ ys) h = absurd (omega arith)

module _ (at : ℕ → Vector) (o : Vector) (xs : List ℕ) where
  -- the volume of triangle k
  abbrev pub volume_at : ℕ → ℤ
  volume_at k = vol o (at (get_or xs (3 * k) 0)) (at (get_or xs (3 * k + 1) 0)) (at (get_or xs (3 * k + 2) 0))

  pub sum_step : (k : ℕ) (total : ℤ) → k < length xs / 3
      → total +ℤ six_volumes at o (drop (3 * k) xs) ≡ six_volumes at o xs
      → (total +ℤ volume_at k) +ℤ six_volumes at o (drop (3 * (k + 1)) xs) ≡ six_volumes at o xs
  sum_step k total h so_far =
      +ℤ_assoc total (volume_at k) (six_volumes at o (drop (3 * (k + 1)) xs)) ∙ ap (λ r. total +ℤ six_volumes at o r) (sym (next_three xs k h)) ∙ so_far

  pub fits_step : (k : ℕ) (total : ℤ) → k < length xs / 3 → PartialSumsFit at o total (drop (3 * k) xs)
      → FitsSigned w128 (total +ℤ volume_at k) × PartialSumsFit at o (total +ℤ volume_at k) (drop (3 * (k + 1)) xs)
  fits_step k total h fit = subst (PartialSumsFit at o total) (next_three xs k h) fit

  pub sum_end : (k : ℕ) (total : ℤ) → k ≡ length xs / 3
      → total +ℤ six_volumes at o (drop (3 * k) xs) ≡ six_volumes at o xs → total ≡ six_volumes at o xs
  sum_end k total e so_far =
      let add_nothing : (x : ℤ) → x +ℤ pos 0 ≡ x = λ x. search rules in
      sym (add_nothing total) ∙ ap (λ v. total +ℤ v) (sym (few_none at o (drop (3 * k) xs) (omega (arith, length-drop (3 * k) xs, e)))) ∙ so_far
