-- Points at a larger scale, and a point slightly beyond the middle of three of them.
use Rattle.qh_model.proofs.Common.{◌≡◌, refl, [], ◌∷◌, ℤ, pos, ◌+ℤ◌, ◌-ℤ◌, ◌*ℤ◌, cross, vol, Vector, minus, dot, arith}
use Rattle.qh_model.proofs.algebra.Ring.{Expr, ring, Expr.var, Expr.con, Expr.add, Expr.sub as less, Expr.mul}
use Rattle.qh_model.proofs.algebra.VectorIdentities.{vec, put, dotE, crossE, subE, VE, vector_path, vol-dot}

-- a point at m times the scale
abbrev pub scaled : ℤ → Vector → Vector
scaled m p = record { x = m *ℤ p.x; y = m *ℤ p.y; z = m *ℤ p.z }

-- c times the sum of three points, plus n
abbrev pub beyond : ℤ → (i j k n : Vector) → Vector
beyond c i j k n = record { x = c *ℤ (i.x +ℤ j.x +ℤ k.x) +ℤ n.x; y = c *ℤ (i.y +ℤ j.y +ℤ k.y) +ℤ n.y; z = c *ℤ (i.z +ℤ j.z +ℤ k.z) +ℤ n.z }

-- the same for expressions
abbrev pub scaledE : Expr → VE → VE
scaledE m p = record { x = mul m p.x; y = mul m p.y; z = mul m p.z }

abbrev beyondE : Expr → (i j k n : VE) → VE
beyondE c i j k n = record {
  x = add (mul c (add (add i.x j.x) k.x)) n.x;
  y = add (mul c (add (add i.y j.y) k.y)) n.y;
  z = add (mul c (add (add i.z j.z) k.z)) n.z;
}

-- a normal grows by the square of the scale
pub cross-scaled : (m : ℤ) (a b d : Vector) → cross (scaled m a) (scaled m b) (scaled m d) ≡ scaled (m *ℤ m) (cross a b d)
unfolding cross
cross-scaled m a b d =
    let M = var 9 in let A = vec 0 in let B = vec 1 in let D = vec 2 in
    let env = put a (put b (put d (m ∷ []))) in
    let l = crossE (subE (scaledE M B) (scaledE M A)) (subE (scaledE M D) (scaledE M A)) in
    let r = scaledE (mul M M) (crossE (subE B A) (subE D A)) in
    vector_path (cross (scaled m a) (scaled m b) (scaled m d)) (scaled (m *ℤ m) (cross a b d))
    (ring env l.x r.x refl) (ring env l.y r.y refl) (ring env l.z r.z refl)

-- the scalar product of a difference from the point beyond
dot-beyond : (c : ℤ) (q a i j k n : Vector) → let m = pos 3 *ℤ c in
    dot (scaled (m *ℤ m) q) (minus (beyond c i j k n) (scaled m a))
    ≡ (m *ℤ m) *ℤ (c *ℤ (dot q (minus i a) +ℤ dot q (minus j a) +ℤ dot q (minus k a)) +ℤ dot q n)
dot-beyond c q a i j k n =
    let C = var 18 in let M = mul (con (pos 3)) C in
    let Q = vec 0 in let A = vec 1 in let I = vec 2 in let J = vec 3 in let K = vec 4 in let N = vec 5 in
    let sum = add (add (dotE Q (subE I A)) (dotE Q (subE J A))) (dotE Q (subE K A)) in
    ring (put q (put a (put i (put j (put k (put n (c ∷ []))))))) (dotE (scaledE (mul M M) Q) (subE (beyondE C I J K N) (scaledE M A)))
    (mul (mul M M) (add (mul C sum) (dotE Q N))) refl

-- so the volume with the point beyond
pub vol-beyond : (c : ℤ) (a b d i j k n : Vector) → let m = pos 3 *ℤ c in
    vol (scaled m a) (scaled m b) (scaled m d) (beyond c i j k n)
    ≡ (m *ℤ m) *ℤ (c *ℤ (vol a b d i +ℤ vol a b d j +ℤ vol a b d k) +ℤ dot (cross a b d) n)
vol-beyond = grind (arith, vol-dot, cross-scaled, dot-beyond)

-- how far the point is beyond a point l, along n
pub dot-past : (c : ℤ) (n i j k l : Vector) → dot n (beyond c i j k n)
    ≡ dot n (scaled (pos 3 *ℤ c) l) +ℤ dot n n -ℤ c *ℤ (dot n (minus l i) +ℤ dot n (minus l j) +ℤ dot n (minus l k))
dot-past c n i j k l =
    let C = var 15 in let M = mul (con (pos 3)) C in
    let N = vec 0 in let I = vec 1 in let J = vec 2 in let K = vec 3 in let L = vec 4 in
    let sum = add (add (dotE N (subE L I)) (dotE N (subE L J))) (dotE N (subE L K)) in
    ring (put n (put i (put j (put k (put l (c ∷ [])))))) (dotE N (beyondE C I J K N)) (less (add (dotE N (scaledE M L)) (dotE N N)) (mul C sum)) refl
