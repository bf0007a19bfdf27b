-- Orders of whole numbers, of equal numbers and of opposites.
use Rattle.qh_model.proofs.Common.{◌≡◌, arith, ints, by_lt_z, ℤ, pos, ◌+ℤ◌, ◌-ℤ◌, neg_ℤ, ◌≤ℤ◌, ◌<ℤ◌}

-- a number that is less than another is not at least as great
pub not_less : (a b : ℤ) → a <ℤ b → b ≤ℤ a → ⊥
not_less a b h k = omega (arith, ints)

-- no two numbers are less than each other
pub less_one_way : (a b : ℤ) → a <ℤ b → b <ℤ a → ⊥
less_one_way a b h k = omega (arith, ints)

-- a number that is less than another is not equal to it
pub less_differ : (a b : ℤ) → a <ℤ b → a ≡ b → ⊥
less_differ a b h e = omega (arith, ints)

-- a number that is less than another is at most the other
pub less_le : (a b : ℤ) → a <ℤ b → a ≤ℤ b
less_le a b h = omega (arith, ints)

-- a number that is not above 0 is at most 0
pub at_most_zero : (v : ℤ) → (pos 0 <ℤ v → ⊥) → v ≤ℤ pos 0
at_most_zero v never = by_lt_z (pos 0) v (λ above. absurd (never above)) (λ below. below)

-- equal numbers are at most each other
pub equal_le : (a b : ℤ) → a ≡ b → a ≤ℤ b
equal_le a b e = omega (arith, ints)

-- a number that is less than another has a positive difference to it
pub gap_positive : (a b : ℤ) → a <ℤ b → pos 0 <ℤ (b -ℤ a)
gap_positive a b h = omega (arith, ints)

-- ---- sums
-- the sum of three numbers not above 0
pub sum_nonpos : (x a b c : ℤ) → x ≡ a +ℤ b +ℤ c → a ≤ℤ pos 0 → b ≤ℤ pos 0 → c ≤ℤ pos 0 → x ≤ℤ pos 0
sum_nonpos x a b c e h k l = omega (arith, ints)

-- if that sum is not below 0, all three are 0
pub sum_parts : (x a b c : ℤ) → x ≡ a +ℤ b +ℤ c → a ≤ℤ pos 0 → b ≤ℤ pos 0 → c ≤ℤ pos 0 → pos 0 ≤ℤ x → (a ≡ pos 0) × (b ≡ pos 0) × (c ≡ pos 0)
sum_parts x a b c e h k l p = (omega (arith, ints), omega (arith, ints), omega (arith, ints))

-- the sum of three zeros
pub sum_zero : (x a b c : ℤ) → x ≡ a +ℤ b +ℤ c → a ≡ pos 0 → b ≡ pos 0 → c ≡ pos 0 → x ≡ pos 0
sum_zero x a b c e h k l = omega (arith, ints)

-- ---- the sign of a number, from that of an equal number
-- not above 0
pub equal_nonpos : (x r : ℤ) → x ≡ r → x ≤ℤ pos 0 → r ≤ℤ pos 0
equal_nonpos x r e h = omega (arith, ints)

-- below 0
pub equal_negative : (x r : ℤ) → x ≡ r → x <ℤ pos 0 → r <ℤ pos 0
equal_negative x r e h = omega (arith, ints)

-- above 0
pub equal_positive : (x r : ℤ) → x ≡ r → pos 0 <ℤ x → pos 0 <ℤ r
equal_positive x r e h = omega (arith, ints)

-- ---- the sign of an opposite
-- the sign of the opposite of a number not above 0
pub opposite_nonneg : (x r : ℤ) → x ≡ neg_ℤ r → x ≤ℤ pos 0 → pos 0 ≤ℤ r
opposite_nonneg x r e h = omega (arith, ints)

-- the sign of the opposite of a negative number
pub opposite_positive : (x r : ℤ) → x ≡ neg_ℤ r → x <ℤ pos 0 → pos 0 <ℤ r
opposite_positive x r e h = omega (arith, ints)

-- the sign of the opposite of a positive number
pub opposite_negative : (x r : ℤ) → x ≡ neg_ℤ r → pos 0 <ℤ x → r <ℤ pos 0
opposite_negative x r e h = omega (arith, ints)

-- the sign of the opposite of 0
pub opposite_zero : (x r : ℤ) → x ≡ neg_ℤ r → r ≡ pos 0 → x ≡ pos 0
opposite_zero x r e h = omega (arith, ints)

-- ---- the sign of a number, from that of its opposite
-- the sign of a number whose opposite is negative
pub negated_positive : (x r : ℤ) → x ≡ neg_ℤ r → r <ℤ pos 0 → pos 0 <ℤ x
negated_positive x r e h = omega (arith, ints)

-- ---- a and b are the opposites of x and y
-- equal numbers have equal opposites
pub opposite_same : (a b x y : ℤ) → a ≡ neg_ℤ x → b ≡ neg_ℤ y → a ≡ b → x ≡ y
opposite_same a b x y e f h = omega (arith, ints)

-- opposites are in the opposite order
pub neg_le : (a b x y : ℤ) → a ≡ neg_ℤ x → b ≡ neg_ℤ y → a ≤ℤ b → y ≤ℤ x
neg_le a b x y e f h = omega (arith, ints)

-- the converse
pub le_neg : (a b x y : ℤ) → a ≡ neg_ℤ x → b ≡ neg_ℤ y → y ≤ℤ x → a ≤ℤ b
le_neg a b x y e f h = omega (arith, ints)

-- strictly ordered opposites are in the opposite order
pub neg_lt : (a b x y : ℤ) → a ≡ neg_ℤ x → b ≡ neg_ℤ y → a <ℤ b → y <ℤ x
neg_lt a b x y e f h = omega (arith, ints)

-- the converse
pub lt_neg : (a b x y : ℤ) → a ≡ neg_ℤ x → b ≡ neg_ℤ y → y <ℤ x → a <ℤ b
lt_neg a b x y e f h = omega (arith, ints)
