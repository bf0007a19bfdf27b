-- Signs of products. A signature needs brackets, since `≤ℤ` binds tighter than `+ℤ` and `*ℤ`.
use Rattle.qh_model.proofs.Common.{*ℤ-zero, ap, arith, by_lt_z, inl, inr, ints, neg_ℤ, pos, rules, sym, ℤ, ℤ_discrete, ⊎_elim, ◌*ℤ◌, ◌+ℤ◌, ◌-ℤ◌, ◌<ℤ◌, ◌∙◌, ◌≡◌}
use Rattle.qh_model.proofs.{Common.◌≤ℤ◌, Common.◌⊎◌, algebra.Integers.mul_add, algebra.Integers.mul_comm, algebra.Integers.mul_neg, algebra.Signs.not_less}

-- the product of two numbers not below 0
pub mul-nonneg : (a b : ℤ) → pos 0 ≤ℤ a → pos 0 ≤ℤ b → pos 0 ≤ℤ (a *ℤ b)
mul-nonneg a b h k = grind (arith, ints)

-- the product of a number not below 0 and one not above 0
pub mul-nonneg_nonpos : (a b : ℤ) → pos 0 ≤ℤ a → b ≤ℤ pos 0 → (a *ℤ b) ≤ℤ pos 0
mul-nonneg_nonpos a b h k = grind (arith, ints)

-- the product of a number not above 0 and one not below 0
pub mul-nonpos_nonneg : (a b : ℤ) → a ≤ℤ pos 0 → pos 0 ≤ℤ b → (a *ℤ b) ≤ℤ pos 0
mul-nonpos_nonneg a b h k = grind (arith, ints)

-- the product of two numbers not above 0
pub mul-nonpos : (a b : ℤ) → a ≤ℤ pos 0 → b ≤ℤ pos 0 → pos 0 ≤ℤ (a *ℤ b)
mul-nonpos a b h k = grind (arith, ints)

-- the product of two positive numbers
pub mul-pos : (a b : ℤ) → pos 0 <ℤ a → pos 0 <ℤ b → pos 0 <ℤ (a *ℤ b)
mul-pos = search rules

-- a factor not below 0 keeps the order
pub mul-le : (a b c : ℤ) → pos 0 ≤ℤ a → b ≤ℤ c → (a *ℤ b) ≤ℤ (a *ℤ c)
mul-le a b c h k =
    let d : pos 0 ≤ℤ (c -ℤ b) = omega (arith, ints) in
    let p : pos 0 ≤ℤ (a *ℤ (c -ℤ b)) = mul-nonneg a (c -ℤ b) h d in
    let s : b +ℤ (c -ℤ b) ≡ c = omega (arith, ints) in
    let e : a *ℤ c ≡ a *ℤ b +ℤ a *ℤ (c -ℤ b) = sym (sym (mul_add a b (c -ℤ b)) ∙ ap (λ v. a *ℤ v) s) in
    omega (arith, ints, p, e)

-- cancelling a positive factor keeps the sign
pub cancel-nonneg : (a b : ℤ) → pos 0 <ℤ a → pos 0 ≤ℤ (a *ℤ b) → pos 0 ≤ℤ b
cancel-nonneg a b h k = grind (arith, ints)

-- the same for a product not above 0
pub cancel-nonpos : (a b : ℤ) → pos 0 <ℤ a → (a *ℤ b) ≤ℤ pos 0 → b ≤ℤ pos 0
cancel-nonpos a b h k = by_lt_z (pos 0) b (λ q. absurd (not_less (pos 0) (a *ℤ b) (mul-pos a b h q) k)) (λ q. q)

-- the same for a positive product
pub cancel-pos : (a b : ℤ) → pos 0 <ℤ a → pos 0 <ℤ (a *ℤ b) → pos 0 <ℤ b
cancel-pos a b h k = grind (arith, ints, mul-nonneg_nonpos)

-- the product of a positive number and a negative one
pub mul-pos_neg : (a b : ℤ) → pos 0 <ℤ a → b <ℤ pos 0 → (a *ℤ b) <ℤ pos 0
mul-pos_neg a b h k = grind (arith, ints, cancel-nonneg)

-- a positive factor of 0
pub cancel-zero : (a b : ℤ) → pos 0 <ℤ a → a *ℤ b ≡ pos 0 → b ≡ pos 0
cancel-zero a b h k = omega (arith, ints, cancel-nonpos a b h (omega (arith, ints, k)), cancel-nonneg a b h (omega (arith, ints, k)))

-- a product with 0
pub product_zero : (l y : ℤ) → y ≡ pos 0 → l *ℤ y ≡ pos 0
product_zero l y e = ap (λ v. l *ℤ v) e ∙ *ℤ-zero l

-- a product that is 0 has a factor 0
pub zero_product : (a b : ℤ) → a *ℤ b ≡ pos 0 → (a ≡ pos 0) ⊎ (b ≡ pos 0)
zero_product = grind (arith, cancel-zero)

-- a negative factor of 0
pub cancel-zero_neg : (a b : ℤ) → a <ℤ pos 0 → a *ℤ b ≡ pos 0 → b ≡ pos 0
cancel-zero_neg a b h k = ⊎_elim (λ e. absurd (omega (arith, ints, h, e))) (λ e. e) (zero_product a b k)

-- the product of a negative number and a positive one
pub mul-neg_pos : (a b : ℤ) → a <ℤ pos 0 → pos 0 <ℤ b → (a *ℤ b) <ℤ pos 0
mul-neg_pos a b h k = rw (mul_comm a b) (mul-pos_neg b a k h)

-- a number that is not above and not below another is equal to it
pub le_antisym : (a b : ℤ) → a ≤ℤ b → b ≤ℤ a → a ≡ b
le_antisym a b h k = omega (arith, ints)

-- a number that is at most another and not equal to it is less
pub le_less : (a b : ℤ) → a ≤ℤ b → (a ≡ b → ⊥) → a <ℤ b
le_less a b h k = by_lt_z a b (λ l. l) (λ l. absurd (k (le_antisym a b h l)))

-- decides whether a number is 0
pub zero_or_not : (v : ℤ) → (v ≡ pos 0) ⊎ (¬ (v ≡ pos 0))
zero_or_not v = elim (ℤ_discrete v (pos 0)) [ yes e ↦ inl e | no n ↦ inr n ]

-- the opposite of a negative number
pub neg-positive : (x : ℤ) → x <ℤ pos 0 → pos 0 <ℤ neg_ℤ x
neg-positive x h = omega (arith, ints)

-- the product of two negative numbers
pub mul-neg_neg : (a b : ℤ) → a <ℤ pos 0 → b <ℤ pos 0 → pos 0 <ℤ (a *ℤ b)
mul-neg_neg a b h k = omega (arith, ints, mul_neg a b, mul-neg_pos a (neg_ℤ b) h (neg-positive b k))

-- a positive number is not below 0
pub positive_le : (x : ℤ) → pos 0 <ℤ x → pos 0 ≤ℤ x
positive_le x h = omega (arith, ints)

-- a negative number is not above 0
pub negative_le : (x : ℤ) → x <ℤ pos 0 → x ≤ℤ pos 0
negative_le x h = omega (arith, ints)

-- a square is not below 0
pub square-nonneg : (x : ℤ) → pos 0 ≤ℤ (x *ℤ x)
square-nonneg = grind arith
