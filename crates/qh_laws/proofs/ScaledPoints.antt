-- Volumes, turns and combinations of points at a larger scale.
use Rattle.std.proofs.{Common.◌≡◌, Common.ℕ, Common.◌+◌, Common.refl, Common.sym, Common.ap, Common.◌∙◌, Common.arith, Common.[], Common.◌∷◌, lemmas.Int.ints}
use Rattle.std.specs.Prelude.{ℤ, pos, ◌+ℤ◌, ◌-ℤ◌, ◌*ℤ◌, ◌<ℤ◌}
use Rattle.qh_model.specs.headline.{Combination.IsBalanced, Predicates.cross, Predicates.vol, Predicates.left, Vector.Vector, Vector.dot}
use Rattle.qh_model.proofs.algebra.{Integers.mul_sub, Integers.mul_swap, Order.cancel-zero, Ring.ring, Ring.Expr.var, Ring.Expr.add, Ring.Expr.mul}
use Rattle.qh_model.proofs.algebra.VectorIdentities.{vec, put, volE, dotE, left-dot}
use Rattle.qh_model.proofs.closed_surfaces.Beyond.{scaled, scaledE, cross-scaled}

-- the scale multiplies a volume by its third power
pub volume_scaled : (m : ℤ) (a b c d : Vector) → vol (scaled m a) (scaled m b) (scaled m c) (scaled m d) ≡ m *ℤ m *ℤ m *ℤ vol a b c d
unfolding vol cross
volume_scaled m a b c d =
    let M = var 12 in
    ring (put a (put b (put c (put d (m ∷ []))))) (volE (scaledE M (vec 0)) (scaledE M (vec 1)) (scaledE M (vec 2)) (scaledE M (vec 3)))
    (mul (mul (mul M M) M) (volE (vec 0) (vec 1) (vec 2) (vec 3))) refl

-- two scales multiply a scalar product by their product
dot-scaled : (k : ℤ) (p q : Vector) → dot (scaled k p) (scaled k q) ≡ k *ℤ k *ℤ dot p q
dot-scaled k p q =
    let K = var 6 in ring (put p (put q (k ∷ []))) (dotE (scaledE K (vec 0)) (scaledE K (vec 1))) (mul (mul K K) (dotE (vec 0) (vec 1))) refl

-- a turn about the normal of three points
pub left-scaled : (m : ℤ) (i j k u v w : Vector) → left (cross (scaled m i) (scaled m j) (scaled m k)) (scaled m u) (scaled m v) (scaled m w)
    ≡ m *ℤ m *ℤ (m *ℤ m) *ℤ left (cross i j k) u v w
left-scaled m i j k u v w =
    left-dot (cross (scaled m i) (scaled m j) (scaled m k)) (scaled m u) (scaled m v) (scaled m w)
    ∙ ap (λ p. dot p (cross (scaled m i) (scaled m j) (scaled m k))) (cross-scaled m u v w)
    ∙ ap (dot (scaled (m *ℤ m) (cross u v w))) (cross-scaled m i j k)
    ∙ dot-scaled (m *ℤ m) (cross u v w) (cross i j k)
    ∙ ap (λ s. m *ℤ m *ℤ (m *ℤ m) *ℤ s) (sym (left-dot (cross i j k) u v w))

-- a factor of a weighted sum
pub weigh : (m a b c d r s t u : ℤ) → m *ℤ (r *ℤ a +ℤ s *ℤ b +ℤ t *ℤ c +ℤ u *ℤ d) ≡ r *ℤ (m *ℤ a) +ℤ s *ℤ (m *ℤ b) +ℤ t *ℤ (m *ℤ c) +ℤ u *ℤ (m *ℤ d)
weigh m a b c d r s t u =
    ring (m ∷ a ∷ b ∷ c ∷ d ∷ r ∷ s ∷ t ∷ u ∷ [])
    (mul (var 0) (add (add (add (mul (var 5) (var 1)) (mul (var 6) (var 2))) (mul (var 7) (var 3))) (mul (var 8) (var 4))))
    (add (add (add (mul (var 5) (mul (var 0) (var 1))) (mul (var 6) (mul (var 0) (var 2)))) (mul (var 7) (mul (var 0) (var 3))))
    (mul (var 8) (mul (var 0) (var 4)))) refl

-- one coordinate of a combination at the scale
pub balanced_up : (m : ℤ) (w₁ w₂ w₃ w₄ : ℕ) (p a b c d : ℤ) → IsBalanced w₁ w₂ w₃ w₄ p a b c d
    → IsBalanced w₁ w₂ w₃ w₄ (m *ℤ p) (m *ℤ a) (m *ℤ b) (m *ℤ c) (m *ℤ d)
balanced_up m w₁ w₂ w₃ w₄ p a b c d e =
    mul_swap (pos (w₁ + w₂ + w₃ + w₄)) m p ∙ ap (λ s. m *ℤ s) e ∙ weigh m a b c d (pos w₁) (pos w₂) (pos w₃) (pos w₄)

-- a positive factor cancels on both sides
pub cancel-both : (m a b : ℤ) → pos 0 <ℤ m → m *ℤ a ≡ m *ℤ b → a ≡ b
cancel-both m a b h e = omega (arith, ints, cancel-zero m (a -ℤ b) h (mul_sub m a b ∙ (omega (arith, ints))))

-- the converse
pub balanced_down : (m : ℤ) → pos 0 <ℤ m → (w₁ w₂ w₃ w₄ : ℕ) (p a b c d : ℤ)
    → IsBalanced w₁ w₂ w₃ w₄ (m *ℤ p) (m *ℤ a) (m *ℤ b) (m *ℤ c) (m *ℤ d) → IsBalanced w₁ w₂ w₃ w₄ p a b c d
balanced_down m h w₁ w₂ w₃ w₄ p a b c d e =
    cancel-both m (pos (w₁ + w₂ + w₃ + w₄) *ℤ p) (pos w₁ *ℤ a +ℤ pos w₂ *ℤ b +ℤ pos w₃ *ℤ c +ℤ pos w₄ *ℤ d) h
    (mul_swap m (pos (w₁ + w₂ + w₃ + w₄)) p ∙ e ∙ sym (weigh m a b c d (pos w₁) (pos w₂) (pos w₃) (pos w₄)))
