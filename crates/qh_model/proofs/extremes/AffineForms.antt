-- Affine forms: a form that is not zero at a convex combination is not zero at some of the combined members.
use Rattle.qh_model.proofs.Common.{◌≡◌, ◌≢◌, ℕ, arith, ◌∙◌, ◌⊎◌, inl, inr, ints, by_lt_z, ℤ, pos, ◌+ℤ◌, ◌<ℤ◌, Combination, Vector, dot}
use Rattle.qh_model.proofs.algebra.{Order.le_antisym, Order.zero_or_not, VectorIdentities.opposite, VectorIdentities.dot-opposite}
use Rattle.qh_model.proofs.combinations.Alternatives.{all_lower}

-- g q = u . q + c
pub record Form (g : Vector → ℤ) : Type 0 where
  pub u : Vector
  pub c : ℤ
  pub is : (q : Vector) → g q ≡ dot u q +ℤ c

-- replacing a form by an equal one
pub form_as : (g h : Vector → ℤ) → Form h → ((q : Vector) → g q ≡ h q) → Form g
form_as g h f e = record { u = f.u; c = f.c; is = λ q. e q ∙ f.is q }

-- a member at which g is not zero
pub record NonZero (at : ℕ → Vector) (E : ℕ → Type 0) (g : Vector → ℤ) : Type 0 where
  pub e : ℕ
  pub has : E e
  pub differs : g (at e) ≢ pos 0

-- a form that is not zero at a convex combination is not zero at a member of it
pub non_zero_member : (at : ℕ → Vector) (E : ℕ → Type 0) (p : Vector) → Combination at E p → (g : Vector → ℤ) → Form g → g p ≢ pos 0 → NonZero at E g
non_zero_member at E p m g f n = of_four (zero_or_not (g (at m.a))) (zero_or_not (g (at m.b))) (zero_or_not (g (at m.c))) (zero_or_not (g (at m.d)))
  where
    Zero : ℕ → Type 0
    Zero i = g (at i) ≡ pos 0

    above : {i : ℕ} → pos 0 <ℤ g p → Zero i → dot f.u (at i) <ℤ dot f.u p
    above {i} l z = omega (arith, ints, f.is p, f.is (at i), l, z)

    below : {i : ℕ} → g p <ℤ pos 0 → Zero i → dot (opposite f.u) (at i) <ℤ dot (opposite f.u) p
    below {i} l z = omega (arith, ints, f.is p, f.is (at i), dot-opposite f.u p, dot-opposite f.u (at i), l, z)

    of_four : Zero m.a ⊎ (¬ (Zero m.a)) → Zero m.b ⊎ (¬ (Zero m.b)) → Zero m.c ⊎ (¬ (Zero m.c)) → Zero m.d ⊎ (¬ (Zero m.d)) → NonZero at E g
    of_four (inr z) b c d = record { e = m.a; has = m.has_a; differs = z }
    of_four (inl a) (inr z) c d = record { e = m.b; has = m.has_b; differs = z }
    of_four (inl a) (inl b) (inr z) d = record { e = m.c; has = m.has_c; differs = z }
    of_four (inl a) (inl b) (inl c) (inr z) = record { e = m.d; has = m.has_d; differs = z }
    of_four (inl a) (inl b) (inl c) (inl d) =
        absurd (by_lt_z (g p) (pos 0) (λ l. all_lower at E p (opposite f.u) m (below l a) (below l b) (below l c) (below l d)) (λ h.
        by_lt_z (pos 0) (g p) (λ l. all_lower at E p f.u m (above l a) (above l b) (above l c) (above l d)) (λ k. n (le_antisym _ _ k h))))
