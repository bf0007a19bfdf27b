-- The signs round one triangle with z below it: those of its edges and corners with d and x.
use Rattle.qh_model.proofs.Common.{◌≡◌, refl, ap, ◌∙◌, arith, [], Bool, true, ⊎_elim, and_from, ints, ℤ, pos, ◌+ℤ◌, ◌-ℤ◌, ◌*ℤ◌, neg_ℤ, ◌<ℤ◌, cross, vol, Vector}
use Rattle.qh_model.proofs.Common.{minus}
use Rattle.qh_model.proofs.algebra.{Order.zero_product, Ring.ring, Ring.ring_zero, Ring.Expr.add, Ring.Expr.sub as less, Ring.Expr.mul, Ring.Expr.neg}
use Rattle.qh_model.proofs.algebra.{Signs.negated_positive, VectorIdentities.vec, VectorIdentities.put, VectorIdentities.volE, VectorIdentities.detE}
use Rattle.qh_laws.proofs.Crossings.{signs_fit}
use Rattle.qh_laws.proofs.Signs.{above, same, is_above, above_product, fits_difference, difference_fits, fits_sum, sum_fits}

-- ---- identities
-- the identity of two edges that meet at b
pub turn_product : (z a b c d x : Vector) → vol z a b d *ℤ vol z b c x -ℤ vol z a b x *ℤ vol z b c d ≡ vol z a b c *ℤ vol z b d x
unfolding vol cross
turn_product z a b c d x =
    ring (put (minus a z) (put (minus b z) (put (minus c z) (put (minus d z) (put (minus x z) [])))))
    (less (mul (detE (vec 0) (vec 1) (vec 3)) (detE (vec 1) (vec 2) (vec 4))) (mul (detE (vec 0) (vec 1) (vec 4)) (detE (vec 1) (vec 2) (vec 3))))
    (mul (detE (vec 0) (vec 1) (vec 2)) (detE (vec 1) (vec 3) (vec 4))) refl

-- d as a sum of the corners, with the sides of d and x on which the corners are
first_sum : (z a b c d x : Vector) → vol z b c d *ℤ vol z a d x +ℤ vol z c a d *ℤ vol z b d x +ℤ vol z a b d *ℤ vol z c d x ≡ pos 0
unfolding vol cross
first_sum z a b c d x =
    ring_zero (put (minus a z) (put (minus b z) (put (minus c z) (put (minus d z) (put (minus x z) [])))))
    (add (add (mul (detE (vec 1) (vec 2) (vec 3)) (detE (vec 0) (vec 3) (vec 4))) (mul (detE (vec 2) (vec 0) (vec 3)) (detE (vec 1) (vec 3) (vec 4))))
    (mul (detE (vec 0) (vec 1) (vec 3)) (detE (vec 2) (vec 3) (vec 4)))) refl

-- the same for x
second_sum : (z a b c d x : Vector) → vol z b c x *ℤ vol z a d x +ℤ vol z c a x *ℤ vol z b d x +ℤ vol z a b x *ℤ vol z c d x ≡ pos 0
unfolding vol cross
second_sum z a b c d x =
    ring_zero (put (minus a z) (put (minus b z) (put (minus c z) (put (minus d z) (put (minus x z) [])))))
    (add (add (mul (detE (vec 1) (vec 2) (vec 4)) (detE (vec 0) (vec 3) (vec 4))) (mul (detE (vec 2) (vec 0) (vec 4)) (detE (vec 1) (vec 3) (vec 4))))
    (mul (detE (vec 0) (vec 1) (vec 4)) (detE (vec 2) (vec 3) (vec 4)))) refl

-- a volume does not change if its last three points rotate
pub vol-round : (z a b c : Vector) → vol z a b c ≡ vol z b c a
unfolding vol cross
vol-round z a b c = ring (put (minus a z) (put (minus b z) (put (minus c z) []))) (detE (vec 0) (vec 1) (vec 2)) (detE (vec 1) (vec 2) (vec 0)) refl

-- a volume changes its sign if its first point moves to the end
pub vol-outwards : (z a b c : Vector) → vol z a b c ≡ neg_ℤ (vol a b c z)
unfolding vol cross
vol-outwards z a b c = ring (put z (put a (put b (put c [])))) (volE (vec 0) (vec 1) (vec 2) (vec 3)) (neg (volE (vec 1) (vec 2) (vec 3) (vec 0))) refl

-- a volume changes its sign if the second and the third point swap
pub flip_round : (z a b y : Vector) → vol z b a y ≡ neg_ℤ (vol z a b y)
unfolding vol cross
flip_round z a b y = ring (put (minus a z) (put (minus b z) (put (minus y z) []))) (detE (vec 1) (vec 0) (vec 2)) (neg (detE (vec 0) (vec 1) (vec 2))) refl

-- ---- their signs
-- products that are not 0
product_not_zero : (a b : ℤ) → ¬ (a ≡ pos 0) → ¬ (b ≡ pos 0) → ¬ (a *ℤ b ≡ pos 0)
product_not_zero a b m n e = ⊎_elim (λ f. m f) (λ f. n f) (zero_product a b e)

-- a positive factor keeps the sign
above_scaled : (k s : ℤ) → pos 0 <ℤ k → ¬ (s ≡ pos 0) → above (k *ℤ s) ≡ above s
above_scaled k s h n = above_product k s (omega (arith, ints)) n ∙ ap (λ b. same b (above s)) (is_above k h)

-- equal tests are consistent in the same way
difference_as : (p q r p' q' r' : Bool) → p ≡ p' → q ≡ q' → r ≡ r' → fits_difference p q r ≡ true → fits_difference p' q' r' ≡ true
difference_as p q r p' q' r' e f g h = rw (← e, ← f, ← g) h

-- the same for sums
sum_as : (p q r p' q' r' : Bool) → p ≡ p' → q ≡ q' → r ≡ r' → fits_sum p q r ≡ true → fits_sum p' q' r' ≡ true
sum_as p q r p' q' r' e f g h = rw (← e, ← f, ← g) h

-- the signs of the difference of two products
products_fit : (a b c d k s : ℤ) → ¬ (a ≡ pos 0) → ¬ (b ≡ pos 0) → ¬ (c ≡ pos 0) → ¬ (d ≡ pos 0) → ¬ (s ≡ pos 0)
    → pos 0 <ℤ k → a *ℤ b -ℤ c *ℤ d ≡ k *ℤ s → fits_difference (same (above a) (above b)) (same (above c) (above d)) (above s) ≡ true
products_fit a b c d k s na nb nc nd ns h e =
    difference_as (above (a *ℤ b)) (above (c *ℤ d)) (above (k *ℤ s)) (same (above a) (above b)) (same (above c) (above d)) (above s)
    (above_product a b na nb) (above_product c d nc nd) (above_scaled k s h ns) (difference_fits (a *ℤ b) (c *ℤ d) (k *ℤ s) e)

-- the signs of the sum of three products
three_fit : (a b c d e f : ℤ) → ¬ (a ≡ pos 0) → ¬ (b ≡ pos 0) → ¬ (c ≡ pos 0) → ¬ (d ≡ pos 0) → ¬ (e ≡ pos 0) → ¬ (f ≡ pos 0)
    → a *ℤ b +ℤ c *ℤ d +ℤ e *ℤ f ≡ pos 0
    → fits_sum (same (above a) (above b)) (same (above c) (above d)) (same (above e) (above f)) ≡ true
three_fit a b c d e f na nb nc nd ne nf z =
    sum_as (above (a *ℤ b)) (above (c *ℤ d)) (above (e *ℤ f)) (same (above a) (above b)) (same (above c) (above d)) (same (above e) (above f))
    (above_product a b na nb) (above_product c d nc nd) (above_product e f ne nf)
    (sum_fits (a *ℤ b) (c *ℤ d) (e *ℤ f) (product_not_zero a b na nb) (product_not_zero c d nc nd) (product_not_zero e f ne nf) z)

-- the signs round a triangle are consistent
pub round_fits : (z a b c d x : Vector) → vol a b c z <ℤ pos 0 → ¬ (vol z a b d ≡ pos 0) → ¬ (vol z b c d ≡ pos 0) → ¬ (vol z c a d ≡ pos 0)
    → ¬ (vol z a b x ≡ pos 0) → ¬ (vol z b c x ≡ pos 0) → ¬ (vol z c a x ≡ pos 0)
    → ¬ (vol z a d x ≡ pos 0) → ¬ (vol z b d x ≡ pos 0) → ¬ (vol z c d x ≡ pos 0)
    → signs_fit (above (vol z a d x)) (above (vol z b d x)) (above (vol z c d x)) (above (vol z a b d)) (above (vol z b c d)) (above (vol z c a d))
    (above (vol z a b x)) (above (vol z b c x)) (above (vol z c a x)) ≡ true
round_fits z a b c d x h u₁ u₂ u₃ v₁ v₂ v₃ sa sb sc =
    and_from _ _ (products_fit _ _ _ _ (vol z a b c) _ u₁ v₂ v₁ u₂ sb outwards (turn_product z a b c d x))
    (and_from _ _ (products_fit _ _ _ _ (vol z b c a) _ u₂ v₃ v₂ u₃ sc second (turn_product z b c a d x))
    (and_from _ _ (products_fit _ _ _ _ (vol z c a b) _ u₃ v₁ v₃ u₁ sa third (turn_product z c a b d x))
    (and_from _ _ (three_fit _ _ _ _ _ _ u₂ sa u₃ sb u₁ sc (first_sum z a b c d x)) (three_fit _ _ _ _ _ _ v₂ sa v₃ sb v₁ sc (second_sum z a b c d x)))))
  where
    outwards : pos 0 <ℤ vol z a b c
    outwards = negated_positive (vol z a b c) (vol a b c z) (vol-outwards z a b c) h

    second : pos 0 <ℤ vol z b c a
    second = omega (arith, ints, vol-round z a b c, outwards)

    third : pos 0 <ℤ vol z c a b
    third = omega (arith, ints, vol-round z b c a, second)
