-- A point under a triangle of a surface, in its cone from z, is above no triangle with z and the corners below it.
use Rattle.qh_model.proofs.Common.{◌≡◌, refl, ap, ◌∙◌, arith, [], ◌∷◌, ints, ℤ, pos, ◌+ℤ◌, ◌-ℤ◌, ◌*ℤ◌, neg_ℤ, ◌≤ℤ◌, ◌<ℤ◌, cross, vol, Vector, minus, dot}
use Rattle.qh_model.proofs.algebra.{Integers.mul_add, Order.mul-nonneg_nonpos, Order.cancel-nonpos}
use Rattle.qh_model.proofs.algebra.{Ring.ring, VectorIdentities.vec, VectorIdentities.put, VectorIdentities.volE, VectorIdentities.detE, VectorIdentities.dotE}
use Rattle.qh_model.proofs.algebra.Ring.Expr.{var, add, sub as less, mul, neg}
use Rattle.qh_laws.proofs.NoneAbove.{vol-from}

-- p in terms of the corners, seen from z, along any n
coordinates : (z a b c p n : Vector) → vol z a b c *ℤ dot n (minus p z)
    ≡ vol z b c p *ℤ dot n (minus a z) +ℤ vol z c a p *ℤ dot n (minus b z) +ℤ vol z a b p *ℤ dot n (minus c z)
unfolding vol cross
coordinates z a b c p n =
    ring (put (minus a z) (put (minus b z) (put (minus c z) (put (minus p z) (put n []))))) (mul (detE (vec 0) (vec 1) (vec 2)) (dotE (vec 4) (vec 3)))
    (add (add (mul (detE (vec 1) (vec 2) (vec 3)) (dotE (vec 4) (vec 0))) (mul (detE (vec 2) (vec 0) (vec 3)) (dotE (vec 4) (vec 1))))
    (mul (detE (vec 0) (vec 1) (vec 3)) (dotE (vec 4) (vec 2)))) refl

-- the height of p above the triangle
pub above_sum : (z a b c p : Vector) → vol a b c p ≡ vol z a b p +ℤ vol z b c p +ℤ vol z c a p -ℤ vol z a b c
unfolding vol cross
above_sum z a b c p =
    ring (put z (put a (put b (put c (put p []))))) (volE (vec 1) (vec 2) (vec 3) (vec 4))
    (less (add (add (volE (vec 0) (vec 1) (vec 2) (vec 4)) (volE (vec 0) (vec 2) (vec 3) (vec 4))) (volE (vec 0) (vec 3) (vec 1) (vec 4)))
    (volE (vec 0) (vec 1) (vec 2) (vec 3))) refl

-- ---- a triangle i, j, k that z and the corners a, b, c are not above
pub under_is_below : (i j k z a b c p : Vector) → pos 0 <ℤ vol z a b c
    → vol i j k z ≤ℤ pos 0 → vol i j k a ≤ℤ pos 0 → vol i j k b ≤ℤ pos 0 → vol i j k c ≤ℤ pos 0
    → pos 0 ≤ℤ vol z a b p → pos 0 ≤ℤ vol z b c p → pos 0 ≤ℤ vol z c a p → vol a b c p ≤ℤ pos 0 → vol i j k p ≤ℤ pos 0
under_is_below i j k z a b c p out hz ha hb hc u₁ u₂ u₃ low =
    let sum = weights (vol z a b c) (vol z a b p) (vol z b c p) (vol z c a p) (dot n (minus a z)) (dot n (minus b z)) (dot n (minus c z))
    (dot n (minus p z)) (vol i j k z) (vol i j k a) (vol i j k b) (vol i j k c) (vol i j k p) (vol a b c p) (vol-from i j k z a) (vol-from i j k z b)
    (vol-from i j k z c) (vol-from i j k z p) (above_sum z a b c p) (coordinates z a b c p n) in
    let of_a = mul-nonneg_nonpos (vol z b c p) (vol i j k a) u₂ ha in let of_b = mul-nonneg_nonpos (vol z c a p) (vol i j k b) u₃ hb in
    let of_c = mul-nonneg_nonpos (vol z a b p) (vol i j k c) u₁ hc in
    let of_z = mul-nonneg_nonpos (neg_ℤ (vol a b c p)) (vol i j k z) (omega (arith, ints, low)) hz in
    cancel-nonpos (vol z a b c) (vol i j k p) out (omega (arith, ints))
  where
    n : Vector
    n = cross i j k

    -- the identity of the weights, over plain numbers
    grown : (v u₁ u₂ u₃ na nb nc s : ℤ) → u₂ *ℤ na +ℤ u₃ *ℤ nb +ℤ u₁ *ℤ nc +ℤ v *ℤ s
        ≡ u₂ *ℤ (na +ℤ s) +ℤ u₃ *ℤ (nb +ℤ s) +ℤ u₁ *ℤ (nc +ℤ s) +ℤ neg_ℤ (u₁ +ℤ u₂ +ℤ u₃ -ℤ v) *ℤ s
    grown v u₁ u₂ u₃ na nb nc s =
        ring (v ∷ u₁ ∷ u₂ ∷ u₃ ∷ na ∷ nb ∷ nc ∷ s ∷ [])
        (add (add (add (mul (var 2) (var 4)) (mul (var 3) (var 5))) (mul (var 1) (var 6))) (mul (var 0) (var 7)))
        (add (add (add (mul (var 2) (add (var 4) (var 7))) (mul (var 3) (add (var 5) (var 7)))) (mul (var 1) (add (var 6) (var 7))))
        (mul (neg (less (add (add (var 1) (var 2)) (var 3)) (var 0))) (var 7))) refl

    weights : (v u₁ u₂ u₃ na nb nc np s ra rb rc rp rt : ℤ) → ra ≡ na +ℤ s → rb ≡ nb +ℤ s → rc ≡ nc +ℤ s → rp ≡ np +ℤ s
        → rt ≡ u₁ +ℤ u₂ +ℤ u₃ -ℤ v → v *ℤ np ≡ u₂ *ℤ na +ℤ u₃ *ℤ nb +ℤ u₁ *ℤ nc
        → v *ℤ rp ≡ u₂ *ℤ ra +ℤ u₃ *ℤ rb +ℤ u₁ *ℤ rc +ℤ neg_ℤ rt *ℤ s
    weights v u₁ u₂ u₃ na nb nc np s ra rb rc rp rt ea eb ec ep et id =
        rw (ea, eb, ec, ep, et) (mul_add v np s ∙ ap (λ m. m +ℤ v *ℤ s) id ∙ grown v u₁ u₂ u₃ na nb nc s)
