-- Directions up to a positive scale, and the normals of triangles in one plane.
use Rattle.qh_model.proofs.Common.{AreInLine, IsAlong, Vector, [], ap, arith, by_lt_z, cross, cross_product, dot, inl, inr, ints, minus, neg_ℤ, negsuc, origin}
use Rattle.qh_model.proofs.Common.{pos, refl, rules, subst, suc, sym, vol, zero, ℕ, ℤ, ◌*ℤ◌, ◌<ℤ◌, ◌<◌, ◌↔◌, ◌∙◌, ◌∷◌, ◌≡◌, ◌≢◌, ◌≤ℤ◌, ◌⊎◌}
use Rattle.qh_model.proofs.algebra.{Integers.mul_neg, Integers.neg_mul, Integers.zero_mul, Order.cancel-nonneg}
use Rattle.qh_model.proofs.algebra.Order.{cancel-nonpos, cancel-zero, le_antisym, mul-nonneg, mul-nonneg_nonpos, neg-positive, product_zero, square-nonneg}
use Rattle.qh_model.proofs.algebra.Ring.{ring, Expr.add, Expr.con, Expr.mul, Expr.neg, Expr.sub as less, Expr.var}
use Rattle.qh_model.proofs.algebra.VectorIdentities.{combine3, crossE, dot-minus, dotE, dot_comm, left-dot, opposite, put, subE, vec, vector_path, vol-dot}
use Rattle.qh_model.proofs.algebra.VectorIdentities.{vol-linear}
use Rattle.qh_model.specs.headline.Predicates.{left}

-- ---- signs under a positive scale
-- if s v = t w with positive s and t, v and w have the same sign
pub at_most_along : (s t : ℕ) (v w : ℤ) → 0 < s → 0 < t → pos s *ℤ v ≡ pos t *ℤ w → v ≤ℤ pos 0 → w ≤ℤ pos 0
at_most_along s t v w h k e l = cancel-nonpos (pos t) w (omega (arith, ints)) (subst (λ x. x ≤ℤ pos 0) e (mul-nonneg_nonpos (pos s) v (omega (arith, ints)) l))

-- not below 0
pub at_least_along : (s t : ℕ) (v w : ℤ) → 0 < s → 0 < t → pos s *ℤ v ≡ pos t *ℤ w → pos 0 ≤ℤ v → pos 0 ≤ℤ w
at_least_along s t v w h k e l = cancel-nonneg (pos t) w (omega (arith, ints)) (subst (λ x. pos 0 ≤ℤ x) e (mul-nonneg (pos s) v (omega (arith, ints)) l))

-- above 0
pub positive_along : (s t : ℕ) (v w : ℤ) → 0 < s → 0 < t → pos s *ℤ v ≡ pos t *ℤ w → pos 0 <ℤ v → pos 0 <ℤ w
positive_along = grind arith

-- 0
pub zero_along : (s t : ℕ) (v w : ℤ) → 0 < t → pos s *ℤ v ≡ pos t *ℤ w → v ≡ pos 0 → w ≡ pos 0
zero_along s t v w k e z = cancel-zero (pos t) w (omega (arith, ints)) (sym e ∙ product_zero (pos s) v z)

-- ---- scalar products and turns along one direction
-- scalar products
pub dot_along : (n m : Vector) (h : IsAlong n m) (q : Vector) → pos h.s *ℤ dot n q ≡ pos h.t *ℤ dot m q
dot_along n m h q =
    combine3 (pos h.s *ℤ dot n q) (pos h.t *ℤ dot m q)
    q.x (pos h.s *ℤ n.x) (pos h.t *ℤ m.x)
    q.y (pos h.s *ℤ n.y) (pos h.t *ℤ m.y)
    q.z (pos h.s *ℤ n.z) (pos h.t *ℤ m.z)
    (
    let N = vec 0 in let M = vec 1 in let Q = vec 2 in let S = var 9 in let T = var 10 in
    ring (put n (put m (put q (pos h.s ∷ pos h.t ∷ [])))) (less (mul S (dotE N Q)) (mul T (dotE M Q)))
    (add (add (mul Q.x (less (mul S N.x) (mul T M.x))) (mul Q.y (less (mul S N.y) (mul T M.y)))) (mul Q.z (less (mul S N.z) (mul T M.z)))) refl) h.x h.y h.z

-- turns
pub left_along : (n m : Vector) (h : IsAlong n m) (u v w : Vector) → pos h.s *ℤ left n u v w ≡ pos h.t *ℤ left m u v w
left_along = grind (arith, left-dot, dot_comm, dot_along)

-- IsAlong is symmetric
pub along_back : (n m : Vector) → IsAlong n m → IsAlong m n
along_back n m h = record { s = h.t; t = h.s; some_s = h.some_t; some_t = h.some_s; x = sym h.x; y = sym h.y; z = sym h.z }

-- ---- vectors at right angles to both sides of a triangle
pub record Parallel (n r : Vector) : Type 0 where
  pub x : dot n n *ℤ r.x ≡ dot n r *ℤ n.x
  pub y : dot n n *ℤ r.y ≡ dot n r *ℤ n.y
  pub z : dot n n *ℤ r.z ≡ dot n r *ℤ n.z

-- (n . n) (p x q) - (n . (p x q)) n = (n . q) (p x n) - (n . p) (q x n)
pub parallel_product : (n p q : Vector) → dot n p ≡ pos 0 → dot n q ≡ pos 0 → Parallel n (cross_product p q)
parallel_product n p q h k =
    let N = vec 0 in let P = vec 1 in let Q = vec 2 in let R = crossE P Q in let A = crossE P N in let B = crossE Q N in let O = con (pos 0) in
    let r = cross_product p q in let a = cross_product p n in let b = cross_product q n in
    let env = put n (put p (put q [])) in
    record {
      x = combine3 (dot n n *ℤ r.x) (dot n r *ℤ n.x) a.x (dot n q) (pos 0) (neg_ℤ b.x) (dot n p) (pos 0) (pos 0) (pos 0) (pos 0)
          (ring env (less (mul (dotE N N) R.x) (mul (dotE N R) N.x))
          (add (add (mul A.x (less (dotE N Q) O)) (mul (neg B.x) (less (dotE N P) O))) (mul O (less O O))) refl) k h
          refl;
      y = combine3 (dot n n *ℤ r.y) (dot n r *ℤ n.y) a.y (dot n q) (pos 0) (neg_ℤ b.y) (dot n p) (pos 0) (pos 0) (pos 0) (pos 0)
          (ring env (less (mul (dotE N N) R.y) (mul (dotE N R) N.y))
          (add (add (mul A.y (less (dotE N Q) O)) (mul (neg B.y) (less (dotE N P) O))) (mul O (less O O))) refl) k h
          refl;
      z = combine3 (dot n n *ℤ r.z) (dot n r *ℤ n.z) a.z (dot n q) (pos 0) (neg_ℤ b.z) (dot n p) (pos 0) (pos 0) (pos 0) (pos 0)
          (ring env (less (mul (dotE N N) R.z) (mul (dotE N R) N.z))
          (add (add (mul A.z (less (dotE N Q) O)) (mul (neg B.z) (less (dotE N P) O))) (mul O (less O O))) refl) k h
          refl;
    }

-- the normal of a triangle at right angles to n
pub parallel_normal : (n a b c : Vector) → dot n (minus b a) ≡ pos 0 → dot n (minus c a) ≡ pos 0 → Parallel n (cross a b c)
unfolding cross
parallel_normal n a b c h k = parallel_product n (minus b a) (minus c a) h k

-- ---- the same direction or the opposite one
-- the same direction, with whole factors
pub along_by : (n m : Vector) (s t : ℤ) → pos 0 <ℤ s → pos 0 <ℤ t → s *ℤ n.x ≡ t *ℤ m.x → s *ℤ n.y ≡ t *ℤ m.y → s *ℤ n.z ≡ t *ℤ m.z → IsAlong n m
along_by = grind arith

-- a square that is not above 0
square-zero : (x : ℤ) → (x *ℤ x) ≤ℤ pos 0 → x ≡ pos 0
square-zero (pos zero) h = refl
square-zero (pos (suc n)) h = absurd (omega (arith, ints))
square-zero (negsuc n) h = absurd (omega (arith, ints))

-- a vector that is not zero has a positive square
pub square-positive : (n : Vector) → n ≢ origin → pos 0 <ℤ dot n n
square-positive n h = by_lt_z (pos 0) (dot n n) (λ q. q) (λ q. absurd (h (flat q)))
  where
    flat : dot n n ≤ℤ pos 0 → n ≡ origin
    flat q =
        let x = square-nonneg n.x in let y = square-nonneg n.y in let z = square-nonneg n.z in
        vector_path n origin (square-zero n.x (omega (arith, ints))) (square-zero n.y (omega (arith, ints))) (square-zero n.z (omega (arith, ints)))

-- a vector parallel to n has its direction or the opposite one
pub along_or_opposite : (n r : Vector) → n ≢ origin → r ≢ origin → Parallel n r → IsAlong n r ⊎ IsAlong n (opposite r)
along_or_opposite n r h k e = by_lt_z (pos 0) s (λ l. inl (along_by n r s t l p (sym e.x) (sym e.y) (sym e.z)))
    (λ l. by_lt_z s (pos 0) (λ q. inr (along_by n (opposite r) (neg_ℤ s) t (neg-positive s q) p (turned n.x r.x e.x) (turned n.y r.y e.y)
    (turned n.z r.z e.z))) (λ q. absurd (k (flat (le_antisym s (pos 0) l q)))))
  where
    s : ℤ
    s = dot n r

    t : ℤ
    t = dot n n

    p : pos 0 <ℤ t
    p = square-positive n h

    turned : (x y : ℤ) → t *ℤ y ≡ s *ℤ x → neg_ℤ s *ℤ x ≡ t *ℤ neg_ℤ y
    turned x y e = neg_mul s x ∙ ap neg_ℤ (sym e) ∙ sym (mul_neg t y)

    none : (x y : ℤ) → t *ℤ y ≡ s *ℤ x → s ≡ pos 0 → y ≡ pos 0
    none x y e z = cancel-zero t y p (e ∙ ap (λ v. v *ℤ x) z ∙ zero_mul x)

    flat : s ≡ pos 0 → r ≡ origin
    flat z = vector_path r origin (none n.x r.x e.x z) (none n.y r.y e.y z) (none n.z r.z e.z z)

-- ---- the normals of triangles in one plane
-- the normal of a reversed triangle is the opposite one
pub cross-flip : (a b c : Vector) → cross a c b ≡ opposite (cross a b c)
unfolding cross
cross-flip a b c =
    let P = subE (vec 1) (vec 0) in let Q = subE (vec 2) (vec 0) in let env = put a (put b (put c [])) in
    vector_path (cross a c b) (opposite (cross a b c)) (ring env (crossE Q P).x (neg (crossE P Q).x) refl) (ring env (crossE Q P).y (neg (crossE P Q).y) refl)
    (ring env (crossE Q P).z (neg (crossE P Q).z) refl)

-- three points are in line in any order
pub in_line-flip : (a b c : Vector) → AreInLine a c b → AreInLine a b c
in_line-flip = grind (arith, vector_path, opposite, cross-flip)

-- a triangle at right angles to n has the direction of n, or the reversed triangle has it
pub normal_along : (n a b c : Vector) → n ≢ origin → ¬ (AreInLine a b c) → dot n (minus b a) ≡ pos 0 → dot n (minus c a) ≡ pos 0
    → IsAlong n (cross a b c) ⊎ IsAlong n (cross a c b)
normal_along = search (rules, cross-flip, along_or_opposite, parallel_normal)

-- the difference of two points, from one point in the plane
pub from_plane : (a b c p l : Vector) → vol a b c p ≡ pos 0 → dot (cross a b c) (minus l p) ≡ vol a b c l
from_plane a b c p l z = rw (dot-minus (cross a b c) l p) (omega (arith, ints, vol-linear a b c l, vol-linear a b c p, z))

-- volumes over two triangles of one plane and one direction
pub vol_along : (a b c u v w l : Vector) (h : IsAlong (cross a b c) (cross u v w)) → vol a b c u ≡ pos 0 → pos h.s *ℤ vol a b c l ≡ pos h.t *ℤ vol u v w l
vol_along a b c u v w l h z = ap (λ t. pos h.s *ℤ t) (sym (from_plane a b c u l z))
    ∙ dot_along (cross a b c) (cross u v w) h (minus l u) ∙ ap (λ t. pos h.t *ℤ t) (sym (vol-dot u v w l))

-- planes of one direction through a common point have the same points
pub same_plane : (a b c u v w l : Vector) → IsAlong (cross a b c) (cross u v w) → vol a b c u ≡ pos 0 → (vol a b c l ≡ pos 0) ↔ (vol u v w l ≡ pos 0)
same_plane a b c u v w l h z = let scale = vol_along a b c u v w l h z in
    (zero_along h.s h.t _ _ h.some_t scale, zero_along h.t h.s _ _ h.some_s (sym scale))

-- each direction is the same as itself
pub along_itself : (n : Vector) → IsAlong n n
along_itself n = record { s = 1; t = 1; some_s = omega arith; some_t = omega arith; x = refl; y = refl; z = refl }
