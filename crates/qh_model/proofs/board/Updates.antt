-- Functions with a changed value, and their sums.
use Rattle.qh_model.proofs.Common.{◌≡◌, ◌≢◌, ◌⊎◌, ℕ, zero, suc, ◌+◌, ◌-◌, ◌*◌, ◌<◌, ◌≤◌, sym, refl, ap, ◌∙◌, arith, eq-eqb, ne_eqb, dite, ℕ_discrete}
use Rattle.qh_model.proofs.Common.{put, sum_to}

module _ {A : Type 0} where
  pub put_here : (f : ℕ → A) (i : ℕ) (x : A) → put f i x i ≡ x
  put_here f i x = rw (eq-eqb i i refl) refl

  pub put_else : (f : ℕ → A) (i : ℕ) (x : A) (j : ℕ) → j ≢ i → put f i x j ≡ f j
  put_else f i x j ne = rw (ne_eqb j i ne) refl

  pub at_put : (f : ℕ → A) (i j : ℕ) (x y : A) → put f i x j ≡ y → ((j ≡ i) × (x ≡ y)) ⊎ ((j ≢ i) × (f j ≡ y))
  at_put = grind arith

pub sum_same : (f g : ℕ → ℕ) (n : ℕ) → ((i : ℕ) → i < n → f i ≡ g i) → sum_to f n ≡ sum_to g n
sum_same f g zero same = refl
sum_same f g (suc n) same = let r = sum_same f g n (λ i h. same i (omega arith)) in let t = same n (omega arith) in omega arith

pub sum_put : (f g : ℕ → ℕ) (n k : ℕ) → k < n → ((i : ℕ) → i < n → i ≢ k → f i ≡ g i) → sum_to g n + f k ≡ sum_to f n + g k
sum_put f g zero k h same = absurd (omega arith)
sum_put f g (suc n) k h same = dite (ℕ_discrete k n)
    (λ e. let r = sum_same f g n (λ i l. same i (omega arith) (omega arith)) in let a : f k ≡ f n = ap f e in let b : g k ≡ g n = ap g e in omega arith)
    (λ ne. let r = sum_put f g n k (omega arith) (λ i l. same i (omega arith)) in let t = same n (omega arith) (λ e. ne (sym e)) in omega arith)

pub sum_most : (f : ℕ → ℕ) (n : ℕ) → ((i : ℕ) → f i ≤ 1) → sum_to f n ≤ n
sum_most f zero small = omega arith
sum_most f (suc n) small = let r = sum_most f n small in let t = small n in omega arith

pub sum_zero : (f : ℕ → ℕ) (n : ℕ) → ((i : ℕ) → f i ≡ 0) → sum_to f n ≡ 0
sum_zero f zero small = refl
sum_zero f (suc n) small = let r = sum_zero f n small in let t = small n in omega arith

-- the same if f 0 is 0
pub sum_less : (f : ℕ → ℕ) (n : ℕ) → f 0 ≡ 0 → ((i : ℕ) → f i ≤ 1) → 0 < n → sum_to f n ≤ n - 1
sum_less f zero z small h = absurd (omega arith)
sum_less f (suc zero) z small h = omega (arith, z)
sum_less f (suc (suc n)) z small h = let r = sum_less f (suc n) z small (omega arith) in let t = small (suc n) in omega arith

-- the elements in pairs
pub sum_pairs : (f : ℕ → ℕ) (n : ℕ) → sum_to f (2 * n) ≡ sum_to (λ i. f (2 * i) + f (2 * i + 1)) n
sum_pairs f zero = refl
sum_pairs f (suc n) = let r = sum_pairs f n in let e : 2 * suc n ≡ suc (suc (2 * n)) = omega arith in
    let d : f (2 * n + 1) ≡ f (suc (2 * n)) = ap f (omega arith) in ap (sum_to f) e ∙ omega arith
