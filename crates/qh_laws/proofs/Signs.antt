-- Signs of whole numbers as tests, and the possible signs round a triangle.
use Rattle.qh_model.proofs.Common.{◌≡◌, arith, refl, Bool, true, false, not, ◌&&◌, ◌||◌, ints, ℤ, pos, ◌+ℤ◌, ◌-ℤ◌, ◌*ℤ◌, neg_ℤ, int_lt, ◌≤ℤ◌, ◌<ℤ◌}
use Rattle.qh_model.proofs.algebra.Order.{mul-pos, mul-pos_neg, mul-neg_pos, mul-neg_neg, le_less, neg-positive, negative_le}

-- true if a number is above 0
abbrev pub above : ℤ → Bool
above x = int_lt (pos 0) x

-- the test of a number above 0 is true
pub is_above : (x : ℤ) → pos 0 <ℤ x → above x ≡ true
is_above x h = by (above x) refl
  where
    by : (b : Bool) → above x ≡ b → above x ≡ true
    by true e = e
    by false e = absurd (omega (arith, ints))

-- the test of a number not above 0 is false
pub not_above : (x : ℤ) → x ≤ℤ pos 0 → above x ≡ false
not_above x h = by (above x) refl
  where
    by : (b : Bool) → above x ≡ b → above x ≡ false
    by false e = e
    by true e = absurd (omega (arith, ints))

-- the converse
pub above_is : (x : ℤ) → above x ≡ true → pos 0 <ℤ x
above_is x e = omega (arith, ints)

-- a number that is not above 0 and not 0 is below 0
pub below_is : (x : ℤ) → ¬ (x ≡ pos 0) → above x ≡ false → x <ℤ pos 0
below_is x n e = le_less x (pos 0) (plain x e) n
  where
    plain : (x : ℤ) → above x ≡ false → x ≤ℤ pos 0
    plain x e = omega (arith, ints)

-- true if two tests are equal
abbrev pub same : Bool → Bool → Bool
same true b = b
same false b = not b

-- the sign of a product
pub above_product : (x y : ℤ) → ¬ (x ≡ pos 0) → ¬ (y ≡ pos 0) → above (x *ℤ y) ≡ same (above x) (above y)
above_product x y m n = by (above x) (above y) refl refl
  where
    by : (a b : Bool) → above x ≡ a → above y ≡ b → above (x *ℤ y) ≡ same (above x) (above y)
    by true true e f = rw (e, f) (is_above (x *ℤ y) (mul-pos x y (above_is x e) (above_is y f)))
    by true false e f = rw (e, f) (not_above (x *ℤ y) (negative_le (x *ℤ y) (mul-pos_neg x y (above_is x e) (below_is y n f))))
    by false true e f = rw (e, f) (not_above (x *ℤ y) (negative_le (x *ℤ y) (mul-neg_pos x y (below_is x m e) (above_is y f))))
    by false false e f = rw (e, f) (is_above (x *ℤ y) (mul-neg_neg x y (below_is x m e) (below_is y n f)))

-- the sign of an opposite
pub above-neg : (x : ℤ) → ¬ (x ≡ pos 0) → above (neg_ℤ x) ≡ not (above x)
above-neg x n = by (above x) refl
  where
    by : (b : Bool) → above x ≡ b → above (neg_ℤ x) ≡ not (above x)
    by true e = rw e (not_above (neg_ℤ x) (omega (arith, ints, above_is x e)))
    by false e = rw e (is_above (neg_ℤ x) (neg-positive x (below_is x n e)))

-- ---- possible combinations of signs
-- the signs of p, q and r with p - q = r
abbrev pub fits_difference : Bool → Bool → Bool → Bool
fits_difference p q r = not (not (same p r) && same q r)

-- there are no other combinations
pub difference_fits : (p q r : ℤ) → p -ℤ q ≡ r → fits_difference (above p) (above q) (above r) ≡ true
difference_fits p q r e = by (above p) (above q) (above r) refl refl refl
  where
    by : (a b c : Bool) → above p ≡ a → above q ≡ b → above r ≡ c → fits_difference a b c ≡ true
    by true true true x y z = refl
    by true true false x y z = refl
    by true false true x y z = refl
    by true false false x y z = absurd (omega (arith, ints))
    by false true true x y z = absurd (omega (arith, ints))
    by false true false x y z = refl
    by false false true x y z = refl
    by false false false x y z = refl

-- the signs of three numbers that are not 0 and add up to 0
abbrev pub fits_sum : Bool → Bool → Bool → Bool
fits_sum p q r = not (p && (q && r)) && (p || (q || r))

-- there are no other combinations
pub sum_fits : (p q r : ℤ) → ¬ (p ≡ pos 0) → ¬ (q ≡ pos 0) → ¬ (r ≡ pos 0) → p +ℤ q +ℤ r ≡ pos 0 → fits_sum (above p) (above q) (above r) ≡ true
sum_fits p q r l m n e = by (above p) (above q) (above r) refl refl refl
  where
    none : (p q r : ℤ) → p +ℤ q +ℤ r ≡ pos 0 → p <ℤ pos 0 → q <ℤ pos 0 → r <ℤ pos 0 → ⊥
    none p q r e x y z = omega (arith, ints)

    by : (a b c : Bool) → above p ≡ a → above q ≡ b → above r ≡ c → fits_sum a b c ≡ true
    by true true true x y z = absurd (omega (arith, ints))
    by true true false x y z = refl
    by true false true x y z = refl
    by true false false x y z = refl
    by false true true x y z = refl
    by false true false x y z = refl
    by false false true x y z = refl
    by false false false x y z = absurd (none p q r e (below_is p l x) (below_is q m y) (below_is r n z))
