-- Vectors of four whole numbers, and the identities of their determinant.
use Rattle.qh_model.proofs.Common.{Weighted, weighted_dot, middle_of, plane_of, above, ◌≡◌, ℕ, ◌+◌, ◌*◌, refl, List, [], ◌∷◌, ℤ, pos, ◌+ℤ◌, neg_ℤ}
use Rattle.qh_model.proofs.algebra.Ring.{Expr, ring, ring_zero, Expr.var, Expr.add, Expr.sub as less, Expr.mul, Expr.neg}

-- ---- expressions
pub record QE : Type 0 where
  pub w : Expr
  pub x : Expr
  pub y : Expr
  pub z : Expr

-- the weighted point of the variables 4 k to 4 k + 3
abbrev pub quad : ℕ → QE
quad k = record { w = var (4 * k); x = var (4 * k + 1); y = var (4 * k + 2); z = var (4 * k + 3) }

-- a scalar product of expressions
abbrev pub dot4E : QE → QE → Expr
dot4E n p = add (add (add (mul n.w p.w) (mul n.x p.x)) (mul n.y p.y)) (mul n.z p.z)

-- a determinant of three rows
abbrev pub minor3E : (a b c p q r u v w : Expr) → Expr
minor3E a b c p q r u v w = add (less (mul a (less (mul q w) (mul r v))) (mul b (less (mul p w) (mul r u)))) (mul c (less (mul p v) (mul q u)))

-- the plane through three
abbrev pub planeE : QE → QE → QE → QE
planeE a b c =
    record {
      w = neg (minor3E a.x a.y a.z b.x b.y b.z c.x c.y c.z);
      x = minor3E a.w a.y a.z b.w b.y b.z c.w c.y c.z;
      y = neg (minor3E a.w a.x a.z b.w b.x b.z c.w c.x c.z);
      z = minor3E a.w a.x a.y b.w b.x b.y c.w c.x c.y;
    }

-- the height of a point above the plane
abbrev pub aboveE : QE → QE → QE → QE → Expr
aboveE a b c p = dot4E (planeE a b c) p

-- the same for points given by their numbers
abbrev pub above_of : (i j k l : ℕ) → Expr
above_of i j k l = aboveE (quad i) (quad j) (quad k) (quad l)

-- a scalar product of two points given by their numbers
abbrev pub dot_of : (i j : ℕ) → Expr
dot_of i j = dot4E (quad i) (quad j)

-- four numbers in front of the rest
abbrev pub put4 : Weighted → List ℤ → List ℤ
put4 p env = p.w ∷ p.x ∷ p.y ∷ p.z ∷ env

-- ---- sums of points
-- the value of a plane at the middle is the sum of its values at the points
pub dot-together : (n a b c d : Weighted) → weighted_dot n (middle_of a b c d) ≡ weighted_dot n a +ℤ weighted_dot n b +ℤ weighted_dot n c +ℤ weighted_dot n d
dot-together n a b c d =
    let sum : (QE → Expr) → Expr = λ part. add (add (add (part (quad 1)) (part (quad 2))) (part (quad 3))) (part (quad 4)) in
    let middle : QE = record { w = sum (λ e. e.w); x = sum (λ e. e.x); y = sum (λ e. e.y); z = sum (λ e. e.z) } in
    ring (put4 n (put4 a (put4 b (put4 c (put4 d []))))) (dot4E (quad 0) middle) (sum (dot4E (quad 0))) refl

-- so the height of the middle above a plane is the sum of the heights of its points
pub above-together : (p q r a b c d : Weighted) → above p q r (middle_of a b c d) ≡ above p q r a +ℤ above p q r b +ℤ above p q r c +ℤ above p q r d
unfolding above
above-together p q r a b c d = dot-together (plane_of p q r) a b c d

-- ---- orders
-- turning and swapping
pub above-turn : (a b c p : Weighted) → above a b c p ≡ above b c a p
unfolding above
above-turn a b c p = ring (put4 a (put4 b (put4 c (put4 p [])))) (above_of 0 1 2 3) (above_of 1 2 0 3) refl

-- a cyclic order of the last three
pub above-turn_last : (a b c p : Weighted) → above a c p b ≡ above a b c p
unfolding above
above-turn_last a b c p = ring (put4 a (put4 b (put4 c (put4 p [])))) (above_of 0 2 3 1) (above_of 0 1 2 3) refl

-- reversing the triangle
pub above-flip : (a b c p : Weighted) → above b a c p ≡ neg_ℤ (above a b c p)
unfolding above
above-flip a b c p = ring (put4 a (put4 b (put4 c (put4 p [])))) (above_of 1 0 2 3) (neg (above_of 0 1 2 3)) refl

-- the determinant with the last two swapped
pub above-swap_last : (a b c p : Weighted) → above a b p c ≡ neg_ℤ (above a b c p)
unfolding above
above-swap_last a b c p = ring (put4 a (put4 b (put4 c (put4 p [])))) (above_of 0 1 3 2) (neg (above_of 0 1 2 3)) refl

-- a corner lies in the plane: the first corner
pub above-first : (a b c : Weighted) → above a b c a ≡ pos 0
unfolding above
above-first a b c = ring_zero (put4 a (put4 b (put4 c []))) (above_of 0 1 2 0) refl

-- the second corner
pub above-second : (a b c : Weighted) → above a b c b ≡ pos 0
unfolding above
above-second a b c = ring_zero (put4 a (put4 b (put4 c []))) (above_of 0 1 2 1) refl

-- the third corner
pub above-third : (a b c : Weighted) → above a b c c ≡ pos 0
unfolding above
above-third a b c = ring_zero (put4 a (put4 b (put4 c []))) (above_of 0 1 2 2) refl

-- ---- other odd orders
-- the second and the fourth swap
pub swap24 : (a b c d : Weighted) → above a d c b ≡ neg_ℤ (above a b c d)
unfolding above
swap24 a b c d = ring (put4 a (put4 b (put4 c (put4 d [])))) (above_of 0 3 2 1) (neg (above_of 0 1 2 3)) refl

-- all four swap
pub turned_first : (v t x y : Weighted) → above x v y t ≡ neg_ℤ (above v t x y)
unfolding above
turned_first v t x y = ring (put4 v (put4 t (put4 x (put4 y [])))) (above_of 2 0 3 1) (neg (above_of 0 1 2 3)) refl

-- the first and the fourth swap
pub swap14 : (a b c d : Weighted) → above d b c a ≡ neg_ℤ (above a b c d)
unfolding above
swap14 a b c d = ring (put4 a (put4 b (put4 c (put4 d [])))) (above_of 3 1 2 0) (neg (above_of 0 1 2 3)) refl
