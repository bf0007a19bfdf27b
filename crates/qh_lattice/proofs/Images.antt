-- Signs, lines, turns and combinations of mapped points.
use Rattle.qh_lattice.proofs.Identities.{apply, cofactors}
use Rattle.qh_lattice.proofs.Identities.{transposed, adjugate, moved_volume, cross-moved, normal_back, shift_back, moved_back, apply-origin, dot-factor}
use Rattle.qh_lattice.specs.contract.LatticeMaps.{Matrix, determinant, moved}
use Rattle.qh_lattice.specs.laws.MapLaws.{SameSign, at_moved, MovedVolumeSign, MovedLine, MovedTurn, MovedExtreme}
use Rattle.qh_laws.proofs.{ScaledPoints.weigh, Scales.combination_moved}
use Rattle.qh_model.proofs.Common.{◌≡◌, ◌≢◌, ℕ, ◌+◌, ◌⊎◌, inl, inr, ⊎_elim, refl, sym, ap, subst, ◌∙◌, [], ◌∷◌, arith, ints, by_lt_z}
use Rattle.qh_model.proofs.Common.{ℤ, pos, ◌+ℤ◌, ◌-ℤ◌, ◌*ℤ◌, ◌<ℤ◌, ◌↔◌, Combination, IsBalanced, Extreme, Others, Members, cross, vol, Vector, origin, dot}
use Rattle.qh_model.proofs.algebra.Integers.{mul_sub, mul_swap, mul_comm, one_mul}
use Rattle.qh_model.proofs.algebra.Order.{mul-pos, mul-nonneg, mul-pos_neg, cancel-pos, cancel-zero, zero_product, product_zero, zero_or_not}
use Rattle.qh_model.proofs.algebra.{Ring.Expr, Ring.ring, Ring.Expr.var, Ring.Expr.add, Ring.Expr.sub as less, Ring.Expr.mul, Signs.less_le, Signs.not_less}
use Rattle.qh_model.proofs.algebra.VectorIdentities.{vec, put, dotE, combine3, vector_path, left-dot, dot_comm, dot-origin}
use Rattle.qh_model.proofs.{closed_surfaces.Beyond.scaled, extremes.Directions.Parallel, extremes.Directions.square-positive}
use Rattle.qh_model.{proofs.polygons.PlaneTurns.level_parallel, specs.headline.Predicates.left}

-- ---- signs
-- a product below 0
cancel-neg : (k b : ℤ) → pos 0 <ℤ k → (k *ℤ b) <ℤ pos 0 → b <ℤ pos 0
cancel-neg k b h q = by_lt_z b (pos 0) (λ l. l) (λ l. absurd (not_less (k *ℤ b) (pos 0) q (mul-nonneg k b (less_le (pos 0) k h) l)))

-- the same sign for equal multiples
pub same_by : (k n a b : ℤ) → pos 0 <ℤ k → pos 0 <ℤ n → k *ℤ b ≡ n *ℤ a → SameSign a b
same_by k n a b h q e = record {
  above = (λ p. cancel-pos k b h (subst (λ v. pos 0 <ℤ v) (sym e) (mul-pos n a q p)), λ p. cancel-pos n a q (subst (λ v. pos 0 <ℤ v) e (mul-pos k b h p)));
  level = (λ p. cancel-zero k b h (e ∙ product_zero n a p), λ p. cancel-zero n a q (sym e ∙ product_zero k b p));
  below = (
    λ p. cancel-neg k b h (subst (λ v. v <ℤ pos 0) (sym e) (mul-pos_neg n a q p)),
    λ p. cancel-neg n a q (subst (λ v. v <ℤ pos 0) e (mul-pos_neg k b h p)),
  );
}

-- two zeros
same_zero : (a b : ℤ) → a ≡ pos 0 → b ≡ pos 0 → SameSign a b
same_zero a b e f = record {
  above = (λ p. absurd (omega (arith, ints, e, p)), λ p. absurd (omega (arith, ints, f, p)));
  level = (λ p. f, λ p. e);
  below = (λ p. absurd (omega (arith, ints, e, p)), λ p. absurd (omega (arith, ints, f, p)));
}

-- a factor of a product that is not 0 is not 0
nonzero_factor : (k b : ℤ) → k ≢ pos 0 → k *ℤ b ≡ pos 0 → b ≡ pos 0
nonzero_factor k b h e = ⊎_elim (λ z. absurd (h z)) (λ z. z) (zero_product k b e)

-- a number above 0 is not 0
pub positive_nonzero : (k : ℤ) → pos 0 <ℤ k → k ≢ pos 0
positive_nonzero k h e = omega (arith, ints, h, e)

-- decides whether a vector is 0
vector_zero_or_not : (n : Vector) → (n ≡ origin) ⊎ (n ≢ origin)
vector_zero_or_not n =
    ⊎_elim (λ x. ⊎_elim (λ y. ⊎_elim (λ z. inl (vector_path n origin x y z)) (λ z. inr (λ e. z (ap (λ p. p.z) e))) (zero_or_not n.z))
    (λ y. inr (λ e. y (ap (λ p. p.y) e))) (zero_or_not n.y)) (λ x. inr (λ e. x (ap (λ p. p.x) e))) (zero_or_not n.x)

-- a factor of a vector that is not 0 is not 0
nonzero_scale : (k : ℤ) (n : Vector) → k ≢ pos 0 → scaled k n ≡ origin → n ≡ origin
nonzero_scale k n h e =
    vector_path n origin (nonzero_factor k n.x h (ap (λ p. p.x) e)) (nonzero_factor k n.y h (ap (λ p. p.y) e)) (nonzero_factor k n.z h (ap (λ p. p.z) e))

-- ---- volumes
-- the law of signs
pub moved_volume_sign : MovedVolumeSign
moved_volume_sign m h s a b c d =
    let w = vol (moved m s a) (moved m s b) (moved m s c) (moved m s d) in
    same_by (pos 1) (determinant m) (vol a b c d) w (omega (arith, ints)) h (one_mul w ∙ moved_volume m s a b c d)

-- ---- lines
-- a normal whose image is 0 is 0
normal_nonzero : (m : Matrix) (n : Vector) → determinant m ≢ pos 0 → apply (cofactors m) n ≡ origin → n ≡ origin
normal_nonzero m n h e = nonzero_scale (determinant m) n h (sym (normal_back m n) ∙ ap (apply (transposed m)) e ∙ apply-origin (transposed m))

-- the law of lines
pub moved_line : MovedLine
moved_line m h s a b c = (
  λ e. normal_nonzero m (cross a b c) h (sym (cross-moved m s a b c) ∙ e),
  λ e. cross-moved m s a b c ∙ ap (apply (cofactors m)) e ∙ apply-origin (cofactors m),
)

-- ---- turns
-- the scalar product of the images of parallel normals
parallel_images : (c : Matrix) (n r : Vector) → Parallel n r → dot n n *ℤ dot (apply c r) (apply c n) ≡ dot (apply c n) (apply c n) *ℤ dot r n
parallel_images c n r p =
    let q = apply c n in
    sym (dot-factor c (dot n n) r q) ∙ ap (λ v. dot (apply c v) q) (vector_path (scaled (dot n n) r) (scaled (dot n r) n) p.x p.y p.z)
    ∙ dot-factor c (dot n r) n q ∙ mul_comm (dot n r) (dot q q) ∙ ap (λ x. dot q q *ℤ x) (dot_comm n r)

-- a turn of images, from normals
left-moved : (m : Matrix) (s i j k u v w : Vector)
    → left (cross (moved m s i) (moved m s j) (moved m s k)) (moved m s u) (moved m s v) (moved m s w)
    ≡ dot (apply (cofactors m) (cross u v w)) (apply (cofactors m) (cross i j k))
left-moved m s i j k u v w =
    left-dot (cross (moved m s i) (moved m s j) (moved m s k)) (moved m s u) (moved m s v) (moved m s w)
    ∙ (λ t. dot (cross-moved m s u v w t) (cross-moved m s i j k t))

-- the law of turns
pub moved_turn : MovedTurn
moved_turn m h s i j k u v w hu hv hw =
    let first : n ≡ origin → a ≡ pos 0 = λ e. left-dot n u v w ∙ dot_comm r n ∙ ap (λ x. dot x r) e ∙ dot-origin r in
    ⊎_elim (λ e. same_zero a b (first e) (second e)) (λ e. sign e) (vector_zero_or_not n)
  where
    n : Vector
    n = cross i j k

    r : Vector
    r = cross u v w

    c : Matrix
    c = cofactors m

    a : ℤ
    a = left n u v w

    b : ℤ
    b = left (cross (moved m s i) (moved m s j) (moved m s k)) (moved m s u) (moved m s v) (moved m s w)

    second : n ≡ origin → b ≡ pos 0
    second e =
        left-moved m s i j k u v w ∙ dot_comm (apply c r) (apply c n) ∙ ap (λ x. dot (apply c x) (apply c r)) e
        ∙ ap (λ x. dot x (apply c r)) (apply-origin c) ∙ dot-origin (apply c r)

    sign : n ≢ origin → SameSign a b
    sign e =
        same_by (dot n n) (dot (apply c n) (apply c n)) a b (square-positive n e) (square-positive (apply c n) (λ z. e (normal_nonzero m n h z)))
        (ap (λ x. dot n n *ℤ x) (left-moved m s i j k u v w) ∙ parallel_images c n r (level_parallel i j k u v w hu hv hw)
        ∙ ap (λ x. dot (apply c n) (apply c n) *ℤ x) (sym (left-dot n u v w)))

-- ---- combinations
-- a sum of weights
weights : (w₁ w₂ w₃ w₄ : ℕ) → pos (w₁ + w₂ + w₃ + w₄) ≡ pos w₁ +ℤ pos w₂ +ℤ pos w₃ +ℤ pos w₄
weights w₁ w₂ w₃ w₄ = omega (arith, ints)

-- a row over a weighted sum
weigh_row : (w p₁ p₂ p₃ p₄ s : ℤ) (r p a b c d : Vector) → w ≡ p₁ +ℤ p₂ +ℤ p₃ +ℤ p₄
    → w *ℤ (dot r p +ℤ s) -ℤ (p₁ *ℤ (dot r a +ℤ s) +ℤ p₂ *ℤ (dot r b +ℤ s) +ℤ p₃ *ℤ (dot r c +ℤ s) +ℤ p₄ *ℤ (dot r d +ℤ s))
    ≡ r.x *ℤ (w *ℤ p.x -ℤ (p₁ *ℤ a.x +ℤ p₂ *ℤ b.x +ℤ p₃ *ℤ c.x +ℤ p₄ *ℤ d.x))
    +ℤ r.y *ℤ (w *ℤ p.y -ℤ (p₁ *ℤ a.y +ℤ p₂ *ℤ b.y +ℤ p₃ *ℤ c.y +ℤ p₄ *ℤ d.y))
    +ℤ r.z *ℤ (w *ℤ p.z -ℤ (p₁ *ℤ a.z +ℤ p₂ *ℤ b.z +ℤ p₃ *ℤ c.z +ℤ p₄ *ℤ d.z))
weigh_row w p₁ p₂ p₃ p₄ s r p a b c d e =
    let R = vec 0 in let P = vec 1 in let A = vec 2 in let B = vec 3 in let C = vec 4 in let D = vec 5 in
    let one = var 18 in let two = var 19 in let three = var 20 in let four = var 21 in let S = var 22 in
    let W = add (add (add one two) three) four in
    let sum = λ (i j k l : Expr). add (add (add (mul one i) (mul two j)) (mul three k)) (mul four l) in
    rw e (ring (put r (put p (put a (put b (put c (put d (p₁ ∷ p₂ ∷ p₃ ∷ p₄ ∷ s ∷ [])))))))
    (less (mul W (add (dotE R P) S)) (sum (add (dotE R A) S) (add (dotE R B) S) (add (dotE R C) S) (add (dotE R D) S)))
    (add (add (mul R.x (less (mul W P.x) (sum A.x B.x C.x D.x))) (mul R.y (less (mul W P.y) (sum A.y B.y C.y D.y))))
    (mul R.z (less (mul W P.z) (sum A.z B.z C.z D.z)))) refl)

-- one coordinate of the image of a combination
balanced_row : (r : Vector) (s : ℤ) (w₁ w₂ w₃ w₄ : ℕ) (p a b c d : Vector)
    → IsBalanced w₁ w₂ w₃ w₄ p.x a.x b.x c.x d.x → IsBalanced w₁ w₂ w₃ w₄ p.y a.y b.y c.y d.y → IsBalanced w₁ w₂ w₃ w₄ p.z a.z b.z c.z d.z
    → IsBalanced w₁ w₂ w₃ w₄ (dot r p +ℤ s) (dot r a +ℤ s) (dot r b +ℤ s) (dot r c +ℤ s) (dot r d +ℤ s)
balanced_row r s w₁ w₂ w₃ w₄ p a b c d x y z =
    let w = pos (w₁ + w₂ + w₃ + w₄) in let p₁ = pos w₁ in let p₂ = pos w₂ in let p₃ = pos w₃ in let p₄ = pos w₄ in
    combine3 (w *ℤ (dot r p +ℤ s)) (p₁ *ℤ (dot r a +ℤ s) +ℤ p₂ *ℤ (dot r b +ℤ s) +ℤ p₃ *ℤ (dot r c +ℤ s) +ℤ p₄ *ℤ (dot r d +ℤ s))
    r.x (w *ℤ p.x) (p₁ *ℤ a.x +ℤ p₂ *ℤ b.x +ℤ p₃ *ℤ c.x +ℤ p₄ *ℤ d.x)
    r.y (w *ℤ p.y) (p₁ *ℤ a.y +ℤ p₂ *ℤ b.y +ℤ p₃ *ℤ c.y +ℤ p₄ *ℤ d.y)
    r.z (w *ℤ p.z) (p₁ *ℤ a.z +ℤ p₂ *ℤ b.z +ℤ p₃ *ℤ c.z +ℤ p₄ *ℤ d.z) (weigh_row w p₁ p₂ p₃ p₄ s r p a b c d (weights w₁ w₂ w₃ w₄)) x y z

-- the image of a combination is a combination of the images
image_combination : (m : Matrix) (s : Vector) (at : ℕ → Vector) (A : ℕ → Type 0) (p : Vector)
    → Combination at A p → Combination (at_moved m s at) A (moved m s p)
image_combination m s at A p c =
    let row = λ (r : Vector) (t : ℤ). balanced_row r t c.w1 c.w2 c.w3 c.w4 p (at c.a) (at c.b) (at c.c) (at c.d) c.x c.y c.z in
    combination_moved at (at_moved m s at) A p (moved m s p) c (row m.first s.x) (row m.second s.y) (row m.third s.z)

-- a factor that is not 0 cancels on both sides
cancel-both : (k a b : ℤ) → k ≢ pos 0 → k *ℤ a ≡ k *ℤ b → a ≡ b
cancel-both k a b h e = omega (arith, ints, nonzero_factor k (a -ℤ b) h (mul_sub k a b ∙ (omega (arith, ints))))

-- one coordinate of a combination with a factor
balanced_down : (k : ℤ) → k ≢ pos 0 → (w₁ w₂ w₃ w₄ : ℕ) (p a b c d : ℤ)
    → IsBalanced w₁ w₂ w₃ w₄ (k *ℤ p) (k *ℤ a) (k *ℤ b) (k *ℤ c) (k *ℤ d) → IsBalanced w₁ w₂ w₃ w₄ p a b c d
balanced_down k h w₁ w₂ w₃ w₄ p a b c d e =
    cancel-both k (pos (w₁ + w₂ + w₃ + w₄) *ℤ p) (pos w₁ *ℤ a +ℤ pos w₂ *ℤ b +ℤ pos w₃ *ℤ c +ℤ pos w₄ *ℤ d) h
    (mul_swap k (pos (w₁ + w₂ + w₃ + w₄)) p ∙ e ∙ sym (weigh k a b c d (pos w₁) (pos w₂) (pos w₃) (pos w₄)))

-- all points at a scale
abbrev scaled_at : ℤ → (ℕ → Vector) → ℕ → Vector
scaled_at k at i = scaled k (at i)

-- a combination with a factor that is not 0
combination_down : (k : ℤ) → k ≢ pos 0 → (at : ℕ → Vector) (A : ℕ → Type 0) (p : Vector) → Combination (scaled_at k at) A (scaled k p) → Combination at A p
combination_down k h at A p c = combination_moved (scaled_at k at) at A (scaled k p) p c
    (balanced_down k h c.w1 c.w2 c.w3 c.w4 p.x (at c.a).x (at c.b).x (at c.c).x (at c.d).x c.x)
    (balanced_down k h c.w1 c.w2 c.w3 c.w4 p.y (at c.a).y (at c.b).y (at c.c).y (at c.d).y c.y)
    (balanced_down k h c.w1 c.w2 c.w3 c.w4 p.z (at c.a).z (at c.b).z (at c.c).z (at c.d).z c.z)

-- a combination of images is the image of a combination
combination_back : (m : Matrix) → determinant m ≢ pos 0 → (s : Vector) (at : ℕ → Vector) (A : ℕ → Type 0) (p : Vector)
    → Combination (at_moved m s at) A (moved m s p) → Combination at A p
combination_back m h s at A p c =
    combination_down (determinant m) h at A p (there (image_combination (adjugate m) (shift_back m s) (at_moved m s at) A (moved m s p) c))
  where
    there : Combination (at_moved (adjugate m) (shift_back m s) (at_moved m s at)) A (moved (adjugate m) (shift_back m s) (moved m s p))
        → Combination (scaled_at (determinant m) at) A (scaled (determinant m) p)
    there k = combination_moved (at_moved (adjugate m) (shift_back m s) (at_moved m s at)) (scaled_at (determinant m) at) A
        (moved (adjugate m) (shift_back m s) (moved m s p)) (scaled (determinant m) p) k (even k (λ v. v.x) k.x) (even k (λ v. v.y) k.y) (even k (λ v. v.z) k.z)
      where
        back : Vector → Vector
        back v = moved (adjugate m) (shift_back m s) (moved m s v)

        even : (k : Combination (at_moved (adjugate m) (shift_back m s) (at_moved m s at)) A (back p)) (f : Vector → ℤ)
            → IsBalanced k.w1 k.w2 k.w3 k.w4 (f (back p)) (f (back (at k.a))) (f (back (at k.b))) (f (back (at k.c))) (f (back (at k.d)))
            → IsBalanced k.w1 k.w2 k.w3 k.w4 (f (scaled (determinant m) p)) (f (scaled (determinant m) (at k.a)))
            (f (scaled (determinant m) (at k.b))) (f (scaled (determinant m) (at k.c))) (f (scaled (determinant m) (at k.d)))
        even k f e = subst
            (λ (g : Vector → Vector). IsBalanced k.w1 k.w2 k.w3 k.w4 (f (g p)) (f (g (at k.a))) (f (g (at k.b))) (f (g (at k.c))) (f (g (at k.d))))
            (λ t v. moved_back m s v t) e

-- ---- extreme ids
-- the extreme ids of any set
pub extreme_moved : (m : Matrix) → determinant m ≢ pos 0 → (s : Vector) (at : ℕ → Vector) (A : ℕ → Type 0) (l : ℕ)
    → Extreme (at_moved m s at) A l ↔ Extreme at A l
extreme_moved m h s at A l = (
  λ e. (e.0, λ c. e.1 (image_combination m s at (Others A l) (at l) c)),
  λ e. (e.0, λ c. e.1 (combination_back m h s at (Others A l) (at l) c)),
)

-- the law of extreme ids
pub moved_extreme : MovedExtreme
moved_extreme m h s at ids l = extreme_moved m h s at (Members ids) l

-- different points have different images
pub moved_apart : (m : Matrix) → determinant m ≢ pos 0 → (s p q : Vector) → moved m s p ≡ moved m s q → p ≡ q
moved_apart m h s p q e =
    let same : scaled (determinant m) p ≡ scaled (determinant m) q = sym (moved_back m s p) ∙ ap (moved (adjugate m) (shift_back m s)) e ∙ moved_back m s q in
    vector_path p q (cancel-both (determinant m) p.x q.x h (ap (λ v. v.x) same))
    (cancel-both (determinant m) p.y q.y h (ap (λ v. v.y) same)) (cancel-both (determinant m) p.z q.z h (ap (λ v. v.z) same))
