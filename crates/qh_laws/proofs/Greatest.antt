-- The greatest of finitely many fractions, and the only member that passes a test.
use Rattle.qh_model.proofs.Common.{◌≡◌, ℕ, ◌+◌, ◌≤◌, refl, sym, ap, subst, ◌∙◌, arith, List, [], ◌∷◌, Bool, true, false, cond, inl, inr, ints, by_lt_z, ℤ, pos}
use Rattle.qh_model.proofs.Common.{◌-ℤ◌, ◌*ℤ◌, ◌≤ℤ◌, ◌<ℤ◌, In}
use Rattle.qh_model.proofs.algebra.{Integers.mul_sub, Integers.mul_swap, Integers.mul_comm, Order.mul-le, Order.mul-pos}
use Rattle.qh_model.proofs.{algebra.Ring.Expr.mul, algebra.Signs.less_le, closed_surfaces.Sums.count}

-- a positive factor cancels
cancel-le : (k a b : ℤ) → pos 0 <ℤ k → (k *ℤ a) ≤ℤ (k *ℤ b) → a ≤ℤ b
cancel-le k a b h e = by_lt_z b a (λ l. absurd (go l)) (λ l. l)
  where
    gap : (a b : ℤ) → b <ℤ a → pos 0 <ℤ (a -ℤ b)
    gap a b l = omega (arith, ints)

    go : b <ℤ a → ⊥
    go l = omega (arith, ints, mul_sub k a b, mul-pos k (a -ℤ b) h (gap a b l))

-- fractions are ordered
pub ratio-trans : (a b c p q r : ℤ) → pos 0 <ℤ p → pos 0 <ℤ q → pos 0 <ℤ r → (a *ℤ q) ≤ℤ (b *ℤ p) → (b *ℤ r) ≤ℤ (c *ℤ q) → (a *ℤ r) ≤ℤ (c *ℤ p)
ratio-trans a b c p q r hp hq hr e f =
    cancel-le q (a *ℤ r) (c *ℤ p) hq
    (let first = mul-le r (a *ℤ q) (b *ℤ p) (less_le (pos 0) r hr) e in let second = mul-le p (b *ℤ r) (c *ℤ q) (less_le (pos 0) p hp) f in
    omega (arith, ints, turned q a r, turned r b p, turned p c q))
  where
    turned : (q a r : ℤ) → q *ℤ (a *ℤ r) ≡ r *ℤ (a *ℤ q)
    turned q a r = mul_swap q a r ∙ ap (λ v. a *ℤ v) (mul_comm q r) ∙ mul_swap a r q

-- the fractions n / m of a list with positive m have a greatest
module _ {X : Type 0} (n m : X → ℤ) where
  -- no fraction of the list is greater
  abbrev pub IsGreatest : X → List X → Type 0
  IsGreatest t xs = (s : X) → In s xs → (n s *ℤ m t) ≤ℤ (n t *ℤ m s)

  pub greatest : (x : X) (xs : List X) → ((y : X) → In y (x ∷ xs) → pos 0 <ℤ m y) → (t : X) × In t (x ∷ xs) × IsGreatest t (x ∷ xs)
  greatest x [] h = (x, inl refl, each)
    where
      own : (v : ℤ) → v ≤ℤ v
      own v = omega (arith, ints)

      each : IsGreatest x (x ∷ [])
      each s (inl e) = subst (λ w. (n w *ℤ m x) ≤ℤ (n x *ℤ m w)) (sym e) (own (n x *ℤ m x))
      each s (inr i) = absurd i
  greatest x (y ∷ ys) h = pick (greatest y ys (λ w i. h w (inr i)))
    where
      pick : (t : X) × In t (y ∷ ys) × IsGreatest t (y ∷ ys) → (t : X) × In t (x ∷ y ∷ ys) × IsGreatest t (x ∷ y ∷ ys)
      pick (t, i, g) = by_lt_z (n t *ℤ m x) (n x *ℤ m t) (λ l. (x, inl refl, new l)) (λ l. (t, inr i, old l))
        where
          new : (n t *ℤ m x) <ℤ (n x *ℤ m t) → IsGreatest x (x ∷ y ∷ ys)
          new l s (inl e) = subst (λ w. (n w *ℤ m x) ≤ℤ (n x *ℤ m w)) (sym e) (omega (arith, ints))
          new l s (inr j) = ratio-trans (n s) (n t) (n x) (m s) (m t) (m x) (h s (inr j)) (h t (inr i)) (h x (inl refl)) (g s j) (less_le _ _ l)

          old : (n x *ℤ m t) ≤ℤ (n t *ℤ m x) → IsGreatest t (x ∷ y ∷ ys)
          old l s (inl e) = subst (λ w. (n w *ℤ m t) ≤ℤ (n t *ℤ m w)) (sym e) l
          old l s (inr j) = g s j

-- ---- the member that passes
module _ {X : Type 0} (p : X → Bool) where
  -- a member that passes is counted
  counted : (xs : List X) (x : X) → In x xs → p x ≡ true → 1 ≤ count p xs
  counted [] x i h = absurd i
  counted (y ∷ ys) x (inl e) h = plain (p y) (count p ys) (ap p (sym e) ∙ h)
    where
      plain : (b : Bool) (k : ℕ) → b ≡ true → 1 ≤ cond b 1 0 + k
      plain true k e = omega arith
      plain false k e = cc
  counted (y ∷ ys) x (inr i) h = plain (p y) (count p ys) (counted ys x i h)
    where
      plain : (b : Bool) (k : ℕ) → 1 ≤ k → 1 ≤ cond b 1 0 + k
      plain b k e = omega arith

  -- two different members that pass count as two
  two : (b : Bool) (n : ℕ) → b ≡ true → cond b 1 0 + n ≤ 1 → 1 ≤ n → ⊥
  two true n e l m = omega arith
  two false n e l m = cc

  -- if at most one member passes, two members that pass are equal
  pub only_one : (xs : List X) (x y : X) → count p xs ≤ 1 → In x xs → In y xs → p x ≡ true → p y ≡ true → x ≡ y
  only_one [] x y c i j h k = absurd i
  only_one (w ∷ ws) x y c (inl e) (inl f) h k = e ∙ sym f
  only_one (w ∷ ws) x y c (inl e) (inr j) h k = absurd (two (p w) (count p ws) (ap p (sym e) ∙ h) c (counted ws y j k))
  only_one (w ∷ ws) x y c (inr i) (inl f) h k = absurd (two (p w) (count p ws) (ap p (sym f) ∙ k) c (counted ws x i h))
  only_one (w ∷ ws) x y c (inr i) (inr j) h k = only_one ws x y (rest (p w) (count p ws) c) i j h k
    where
      rest : (b : Bool) (n : ℕ) → cond b 1 0 + n ≤ 1 → n ≤ 1
      rest b n l = omega arith
