-- The value of a plane at a point, from the point's coordinates with respect to four others, and the product law for planes through one line.
use Rattle.qh_model.proofs.Common.{Weighted, [], above, arith, ints, plane_of, pos, refl, weighted_dot, ◌*ℤ◌, ◌+ℤ◌, ◌-ℤ◌, ◌∷◌, ◌≡◌}
use Rattle.qh_model.proofs.algebra.{Order.product_zero, Ring.ring, Ring.Expr.add, Ring.Expr.mul, Ring.Expr.neg, Ring.Expr.var}
use Rattle.qh_model.proofs.surfaces.Determinants.{above-first, above-second, above-swap_last, above_of, dot_of, put4}

-- four points give coordinates of a fifth
pub cramer : (n a b c y p : Weighted) → above a b c y *ℤ weighted_dot n p
    ≡ above p b c y *ℤ weighted_dot n a +ℤ above a p c y *ℤ weighted_dot n b +ℤ above a b p y *ℤ weighted_dot n c
    +ℤ above a b c p *ℤ weighted_dot n y
unfolding above
cramer n a b c y p =
    let first = mul (above_of 5 2 3 4) (dot_of 0 1) in let second = mul (above_of 1 5 3 4) (dot_of 0 2) in
    let third = mul (above_of 1 2 5 4) (dot_of 0 3) in let last = mul (above_of 1 2 3 5) (dot_of 0 4) in
    ring (put4 n (put4 a (put4 b (put4 c (put4 y (put4 p [])))))) (mul (above_of 1 2 3 4) (dot_of 0 5)) (add (add (add first second) third) last) refl

-- the case that the plane is 0 at three of them
pub cramer_level : (n a b c y p : Weighted) → weighted_dot n a ≡ pos 0 → weighted_dot n b ≡ pos 0 → weighted_dot n c ≡ pos 0
    → above a b c y *ℤ weighted_dot n p ≡ above a b c p *ℤ weighted_dot n y
cramer_level n a b c y p ha hb hc =
    let sum = cramer n a b c y p in let x = product_zero (above p b c y) (weighted_dot n a) ha in
    let z = product_zero (above a p c y) (weighted_dot n b) hb in let w = product_zero (above a b p y) (weighted_dot n c) hc in
    omega (arith, ints, sum, x, z, w)

-- the same for the plane of a line and a point, by heights
cramer_above : (u v b a y p : Weighted) → above u v a y *ℤ above u v b p
    ≡ above p v a y *ℤ above u v b u +ℤ above u p a y *ℤ above u v b v +ℤ above u v p y *ℤ above u v b a +ℤ above u v a p *ℤ above u v b y
unfolding above
cramer_above u v b a y p = cramer (plane_of u v b) u v a y p

-- the product law for planes through one line
pub line_product : (u v a b p q : Weighted) → above u v a p *ℤ above u v b q -ℤ above u v a q *ℤ above u v b p ≡ above u v a b *ℤ above u v p q
line_product u v a b p q =
    let sum = cramer_above u v b a p q in let x = product_zero (above q v a p) (above u v b u) (above-first u v b) in
    let y = product_zero (above u q a p) (above u v b v) (above-second u v b) in
    let both : above u v q p *ℤ above u v b a ≡ above u v a b *ℤ above u v p q = rw (above-swap_last u v p q, above-swap_last u v a b)
    (ring (above u v p q ∷ above u v a b ∷ []) (mul (neg (var 0)) (neg (var 1))) (mul (var 1) (var 0)) refl) in
    omega (arith, ints, sum, x, y, both)
