-- Points of a triangle, seen from a place below it: their weights over its corners.
use Rattle.qh_model.proofs.Common.{◌≡◌, refl, ap, ◌∙◌, arith, [], ◌∷◌, ints, ℤ, pos, ◌+ℤ◌, ◌-ℤ◌, ◌*ℤ◌, ◌≤ℤ◌, ◌<ℤ◌, cross, vol, Vector, minus}
use Rattle.qh_model.proofs.algebra.{Order.cancel-zero, Ring.ring, Ring.Expr.var, Ring.Expr.add, Ring.Expr.sub as less, Ring.Expr.mul}
use Rattle.qh_model.proofs.algebra.VectorIdentities.{vec, put, detE, vector_path}
use Rattle.qh_laws.proofs.UnderTriangles.{above_sum}

-- the first coordinate of the point
first_coordinate : (z a b c p : Vector)
    → vol z a b c *ℤ (p.x -ℤ z.x) ≡ vol z b c p *ℤ (a.x -ℤ z.x) +ℤ vol z c a p *ℤ (b.x -ℤ z.x) +ℤ vol z a b p *ℤ (c.x -ℤ z.x)
unfolding vol cross
first_coordinate z a b c p =
    ring (put (minus a z) (put (minus b z) (put (minus c z) (put (minus p z) [])))) (mul (detE (vec 0) (vec 1) (vec 2)) (var 9))
    (add (add (mul (detE (vec 1) (vec 2) (vec 3)) (var 0)) (mul (detE (vec 2) (vec 0) (vec 3)) (var 3))) (mul (detE (vec 0) (vec 1) (vec 3)) (var 6))) refl

-- the second coordinate
second_coordinate : (z a b c p : Vector)
    → vol z a b c *ℤ (p.y -ℤ z.y) ≡ vol z b c p *ℤ (a.y -ℤ z.y) +ℤ vol z c a p *ℤ (b.y -ℤ z.y) +ℤ vol z a b p *ℤ (c.y -ℤ z.y)
unfolding vol cross
second_coordinate z a b c p =
    ring (put (minus a z) (put (minus b z) (put (minus c z) (put (minus p z) [])))) (mul (detE (vec 0) (vec 1) (vec 2)) (var 10))
    (add (add (mul (detE (vec 1) (vec 2) (vec 3)) (var 1)) (mul (detE (vec 2) (vec 0) (vec 3)) (var 4))) (mul (detE (vec 0) (vec 1) (vec 3)) (var 7))) refl

-- the third coordinate
third_coordinate : (z a b c p : Vector)
    → vol z a b c *ℤ (p.z -ℤ z.z) ≡ vol z b c p *ℤ (a.z -ℤ z.z) +ℤ vol z c a p *ℤ (b.z -ℤ z.z) +ℤ vol z a b p *ℤ (c.z -ℤ z.z)
unfolding vol cross
third_coordinate z a b c p =
    ring (put (minus a z) (put (minus b z) (put (minus c z) (put (minus p z) [])))) (mul (detE (vec 0) (vec 1) (vec 2)) (var 11))
    (add (add (mul (detE (vec 1) (vec 2) (vec 3)) (var 2)) (mul (detE (vec 2) (vec 0) (vec 3)) (var 5))) (mul (detE (vec 0) (vec 1) (vec 3)) (var 8))) refl

-- a point of the triangle a, b, c: in its plane, and on the inner side of each edge
pub record IsInside (z a b c p : Vector) : Type 0 where
  pub level : vol a b c p ≡ pos 0
  pub first : pos 0 ≤ℤ vol z a b p
  pub second : pos 0 ≤ℤ vol z b c p
  pub third : pos 0 ≤ℤ vol z c a p

-- the sum of the weights
pub weights_sum : (z a b c p : Vector) → IsInside z a b c p → vol z a b c ≡ vol z b c p +ℤ vol z c a p +ℤ vol z a b p
weights_sum z a b c p h = plain (vol a b c p) (vol z a b p) (vol z b c p) (vol z c a p) (vol z a b c) h.level (above_sum z a b c p)
  where
    plain : (s u v w k : ℤ) → s ≡ pos 0 → s ≡ u +ℤ v +ℤ w -ℤ k → k ≡ v +ℤ w +ℤ u
    plain s u v w k e f = omega (arith, ints)

-- a point of the triangle as far from the second edge as the first corner equals that corner
pub at_corner : (z a b c p : Vector) → pos 0 <ℤ vol z a b c → IsInside z a b c p → vol z a b c ≤ℤ vol z b c p → p ≡ a
at_corner z a b c p out h far =
    vector_path p a (same p.x z.x a.x b.x c.x _ _ _ _ out (first_coordinate z a b c p) ends.0 ends.1 ends.2)
    (same p.y z.y a.y b.y c.y _ _ _ _ out (second_coordinate z a b c p) ends.0 ends.1 ends.2)
    (same p.z z.z a.z b.z c.z _ _ _ _ out (third_coordinate z a b c p) ends.0 ends.1 ends.2)
  where
    ends : (vol z b c p ≡ vol z a b c) × (vol z c a p ≡ pos 0) × (vol z a b p ≡ pos 0)
    ends = only (vol z a b c) (vol z b c p) (vol z c a p) (vol z a b p) (weights_sum z a b c p h) h.third h.first far
      where
        only : (k u v w : ℤ) → k ≡ u +ℤ v +ℤ w → pos 0 ≤ℤ v → pos 0 ≤ℤ w → k ≤ℤ u → (u ≡ k) × (v ≡ pos 0) × (w ≡ pos 0)
        only k u v w e f g l = (omega (arith, ints), omega (arith, ints), omega (arith, ints))

    same : (p z a b c k u v w : ℤ) → pos 0 <ℤ k → k *ℤ (p -ℤ z) ≡ u *ℤ (a -ℤ z) +ℤ v *ℤ (b -ℤ z) +ℤ w *ℤ (c -ℤ z) → u ≡ k → v ≡ pos 0 → w ≡ pos 0 → p ≡ a
    same p z a b c k u v w l e f g m =
        let even = e ∙ ap (λ n. n *ℤ (a -ℤ z) +ℤ v *ℤ (b -ℤ z) +ℤ w *ℤ (c -ℤ z)) f
        ∙ ap (λ n. k *ℤ (a -ℤ z) +ℤ n *ℤ (b -ℤ z) +ℤ w *ℤ (c -ℤ z)) g
        ∙ ap (λ n. k *ℤ (a -ℤ z) +ℤ pos 0 *ℤ (b -ℤ z) +ℤ n *ℤ (c -ℤ z)) m ∙ none (k *ℤ (a -ℤ z)) (b -ℤ z) (c -ℤ z) in
        omega (arith, ints, cancel-zero k (p -ℤ a) l (split k p z a ∙ (omega (arith, ints, even))))
      where
        none : (m b c : ℤ) → m +ℤ pos 0 *ℤ b +ℤ pos 0 *ℤ c ≡ m
        none m b c = omega (arith, ints)

        split : (k p z a : ℤ) → k *ℤ (p -ℤ a) ≡ k *ℤ (p -ℤ z) -ℤ k *ℤ (a -ℤ z)
        split k p z a =
            ring (k ∷ p ∷ z ∷ a ∷ []) (mul (var 0) (less (var 1) (var 3))) (less (mul (var 0) (less (var 1) (var 2))) (mul (var 0) (less (var 3) (var 2)))) refl
