-- Directions in one plane: their brackets, and the volume of three of them, which is 0.
use Rattle.qh_model.proofs.Common.{◌≡◌, ℕ, refl, [], arith, ◌∙◌, ints, ℤ, pos, ◌+ℤ◌, ◌-ℤ◌, ◌*ℤ◌, ◌≤ℤ◌, ◌<ℤ◌, Vector, cross_product, dot}
use Rattle.qh_model.proofs.algebra.{Integers.mul_comm, Order.mul-nonneg, Order.mul-pos, Order.cancel-pos, Order.cancel-zero}
use Rattle.qh_model.proofs.algebra.VectorIdentities.{vec, crossE, dotE, detE, put}
use Rattle.qh_model.proofs.algebra.Ring.{Expr, ring, Expr.add, Expr.sub as less, Expr.mul}

-- the bracket of two directions, seen along n
abbrev pub bracket : Vector → Vector → Vector → ℤ
bracket n a b = dot (cross_product a b) n

-- the volume of three directions
abbrev pub determinant : Vector → Vector → Vector → ℤ
determinant a b c = dot (cross_product a b) c

-- the bracket as an expression
abbrev pub bracketE : ℕ → ℕ → Expr
bracketE i j = dotE (crossE (vec i) (vec j)) (vec 0)

-- a volume by brackets in a plane, times n . n
determinant-square : (n a b c : Vector) → dot n n *ℤ determinant a b c ≡ dot n a *ℤ bracket n b c +ℤ dot n b *ℤ bracket n c a +ℤ dot n c *ℤ bracket n a b
determinant-square n a b c =
    ring (put n (put a (put b (put c [])))) (mul (dotE (vec 0) (vec 0)) (detE (vec 1) (vec 2) (vec 3)))
    (add (add (mul (dotE (vec 0) (vec 1)) (bracketE 2 3)) (mul (dotE (vec 0) (vec 2)) (bracketE 3 1))) (mul (dotE (vec 0) (vec 3)) (bracketE 1 2))) refl

-- a combination of zeros is zero
all_zero : (d p q r x y z : ℤ) → d ≡ p *ℤ x +ℤ q *ℤ y +ℤ r *ℤ z → p ≡ pos 0 → q ≡ pos 0 → r ≡ pos 0 → d ≡ pos 0
all_zero d p q r x y z e h i j = rw (h, i, j) at e ∙ omega (arith, ints)

-- three directions across n have volume 0
pub determinant-zero : (n a b c : Vector) → pos 0 <ℤ dot n n → dot n a ≡ pos 0 → dot n b ≡ pos 0 → dot n c ≡ pos 0 → determinant a b c ≡ pos 0
determinant-zero n a b c s h i j = cancel-zero (dot n n) (determinant a b c) s (all_zero _ _ _ _ _ _ _ (determinant-square n a b c) h i j)

-- four directions: brackets of three along h, up to their volume
bracket-plane : (n h a b c : Vector) → bracket n a c *ℤ dot h b ≡ bracket n a b *ℤ dot h c +ℤ bracket n b c *ℤ dot h a -ℤ determinant a b c *ℤ dot h n
bracket-plane n h a b c =
    ring (put n (put a (put b (put c (put h []))))) (mul (bracketE 1 3) (dotE (vec 4) (vec 2)))
    (less (add (mul (bracketE 1 2) (dotE (vec 4) (vec 3))) (mul (bracketE 2 3) (dotE (vec 4) (vec 1))))
    (mul (detE (vec 1) (vec 2) (vec 3)) (dotE (vec 4) (vec 0)))) refl

-- a last term that is zero
no_last : (l x d k : ℤ) → l ≡ x -ℤ d *ℤ k → d ≡ pos 0 → l ≡ x
no_last l x d k e h = rw h at e ∙ omega (arith, ints)

-- the bracket of the middle one of three directions across n, in terms of the others
pub bracket-fan : (n h a b c : Vector) → pos 0 <ℤ dot n n → dot n a ≡ pos 0 → dot n b ≡ pos 0 → dot n c ≡ pos 0
    → bracket n a c *ℤ dot h b ≡ bracket n a b *ℤ dot h c +ℤ bracket n b c *ℤ dot h a
bracket-fan n h a b c s i j k = no_last _ _ _ _ (bracket-plane n h a b c) (determinant-zero n a b c s i j k)

-- if b is not to the right of a, nor c of b, and all three are ahead along h, c is not to the right of a
pub fan_sign : (ac hb ab hc bc ha : ℤ) → ac *ℤ hb ≡ ab *ℤ hc +ℤ bc *ℤ ha → pos 0 <ℤ ha → pos 0 <ℤ hb → pos 0 <ℤ hc → pos 0 ≤ℤ ab → pos 0 ≤ℤ bc → pos 0 ≤ℤ ac
fan_sign = grind arith

-- the same, strictly if the first turn is strict
pub fan_sign_left : (ac hb ab hc bc ha : ℤ) → ac *ℤ hb ≡ ab *ℤ hc +ℤ bc *ℤ ha → pos 0 <ℤ ha → pos 0 <ℤ hb → pos 0 <ℤ hc
    → pos 0 <ℤ ab → pos 0 ≤ℤ bc → pos 0 <ℤ ac
fan_sign_left ac hb ab hc bc ha e p q r h k =
    let x : pos 0 <ℤ (ab *ℤ hc) = mul-pos ab hc h r in
    let y : pos 0 ≤ℤ (bc *ℤ ha) = mul-nonneg bc ha k (omega (arith, ints)) in
    cancel-pos hb ac q (rw (mul_comm hb ac, e) (omega (arith, ints)))
