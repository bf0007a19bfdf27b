-- Points in one line, and points in one plane.
use Rattle.qh_model.proofs.Common.{◌≡◌, List, [], ◌∷◌, arith, ap, ◌∙◌, refl, ints, ℤ, pos, ◌+ℤ◌, ◌-ℤ◌, ◌*ℤ◌, ◌<ℤ◌, neg_ℤ, cross, vol, AreInLine, Vector, origin}
use Rattle.qh_model.proofs.Common.{minus, cross_product, dot}
use Rattle.qh_model.proofs.algebra.{Order.cancel-zero, Ring.ring, Ring.Expr.add, Ring.Expr.sub as less, Ring.Expr.mul, Ring.Expr.neg}
use Rattle.qh_model.proofs.algebra.VectorIdentities.{vec, subE, crossE, dotE, put, vector_path}
use Rattle.qh_model.proofs.extremes.Directions.{square-positive}
use Rattle.qh_polygon.proofs.PlaneDirections.{determinant-zero}

-- ---- lines
-- a component of x X y by the components of d X x and d X y, times d . d
line_eq : (dx dy dz xx xy xz yx yy yz : ℤ) → (dx *ℤ dx +ℤ dy *ℤ dy +ℤ dz *ℤ dz) *ℤ (xy *ℤ yz -ℤ xz *ℤ yy)
    ≡ (dx *ℤ xx +ℤ dy *ℤ xy +ℤ dz *ℤ xz) *ℤ (dy *ℤ yz -ℤ dz *ℤ yy) +ℤ neg_ℤ (yz *ℤ dz +ℤ yy *ℤ dy)
    *ℤ (dy *ℤ xz -ℤ dz *ℤ xy) +ℤ (yy *ℤ dx) *ℤ (dz *ℤ xx -ℤ dx *ℤ xz) +ℤ (yz *ℤ dx) *ℤ (dx *ℤ xy -ℤ dy *ℤ xx)
line_eq dx dy dz xx xy xz yx yy yz =
    let D = vec 0 in let X = vec 1 in let Y = vec 2 in
    ring (dx ∷ dy ∷ dz ∷ xx ∷ xy ∷ xz ∷ yx ∷ yy ∷ yz ∷ []) (mul (dotE D D) (less (mul X.y Y.z) (mul X.z Y.y)))
    (add (add (add (mul (dotE D X) (less (mul D.y Y.z) (mul D.z Y.y)))
    (mul (neg (add (mul Y.z D.z) (mul Y.y D.y))) (less (mul D.y X.z) (mul D.z X.y)))) (mul (mul Y.y D.x)
    (less (mul D.z X.x) (mul D.x X.z)))) (mul (mul Y.z D.x) (less (mul D.x X.y) (mul D.y X.x)))) refl

-- a combination of zeros is zero
four_zero : (l a b c d p q r s : ℤ) → l ≡ a *ℤ p +ℤ b *ℤ q +ℤ c *ℤ r +ℤ d *ℤ s → p ≡ pos 0 → q ≡ pos 0 → r ≡ pos 0 → s ≡ pos 0 → l ≡ pos 0
four_zero l a b c d p q r s e h i j k = rw (h, i, j, k) at e ∙ omega (arith, ints)

-- the first component of x X y is zero where d X x is, and two components of d X y
line_x : (dx dy dz xx xy xz yx yy yz : ℤ) → pos 0 <ℤ (dx *ℤ dx +ℤ dy *ℤ dy +ℤ dz *ℤ dz) → dy *ℤ xz -ℤ dz *ℤ xy ≡ pos 0
    → dz *ℤ xx -ℤ dx *ℤ xz ≡ pos 0 → dx *ℤ xy -ℤ dy *ℤ xx ≡ pos 0
    → dy *ℤ yz -ℤ dz *ℤ yy ≡ pos 0 → xy *ℤ yz -ℤ xz *ℤ yy ≡ pos 0
line_x dx dy dz xx xy xz yx yy yz n p q r s =
    cancel-zero (dx *ℤ dx +ℤ dy *ℤ dy +ℤ dz *ℤ dz) (xy *ℤ yz -ℤ xz *ℤ yy) n (four_zero _ _ _ _ _ _ _ _ _ (line_eq dx dy dz xx xy xz yx yy yz) s p q r)

-- directions that are both along d are along each other
pair_line : (d x y : Vector) → pos 0 <ℤ dot d d → cross_product d x ≡ origin → cross_product d y ≡ origin → cross_product x y ≡ origin
pair_line d x y n p q =
    vector_path (cross_product x y) origin
    (line_x d.x d.y d.z x.x x.y x.z y.x y.y y.z n (ap (λ v. v.x) p) (ap (λ v. v.y) p) (ap (λ v. v.z) p) (ap (λ v. v.x) q))
    (line_x d.y d.z d.x x.y x.z x.x y.y y.z y.x (omega (arith, ints)) (ap (λ v. v.y) p) (ap (λ v. v.z) p) (ap (λ v. v.x) p) (ap (λ v. v.y) q))
    (line_x d.z d.x d.y x.z x.x x.y y.z y.x y.y (omega (arith, ints)) (ap (λ v. v.z) p) (ap (λ v. v.x) p) (ap (λ v. v.y) p) (ap (λ v. v.z) q))

-- points that are in line with i and j are in one line
pub three_line : (i j a b c : Vector) → pos 0 <ℤ dot (minus j i) (minus j i) → AreInLine i j a → AreInLine i j b → AreInLine i j c → AreInLine a b c
unfolding cross
three_line i j a b c n p q r =
    let bc = pair_line (minus j i) (minus b i) (minus c i) n q r in
    let ba = pair_line (minus j i) (minus b i) (minus a i) n q p in
    let ac = pair_line (minus j i) (minus a i) (minus c i) n p r in
    let I = vec 0 in let A = vec 1 in let B = vec 2 in let C = vec 3 in
    let whole = crossE (subE B A) (subE C A) in let x = crossE (subE B I) (subE C I) in
    let y = crossE (subE B I) (subE A I) in let z = crossE (subE A I) (subE C I) in
    let env : List ℤ = put i (put a (put b (put c []))) in
    vector_path (cross_product (minus b a) (minus c a)) origin
    (omega (arith, ints, ring env whole.x (less (less x.x y.x) z.x) refl, ap (λ v. v.x) bc, ap (λ v. v.x) ba, ap (λ v. v.x) ac))
    (omega (arith, ints, ring env whole.y (less (less x.y y.y) z.y) refl, ap (λ v. v.y) bc, ap (λ v. v.y) ba, ap (λ v. v.y) ac))
    (omega (arith, ints, ring env whole.z (less (less x.z y.z) z.z) refl, ap (λ v. v.z) bc, ap (λ v. v.z) ba, ap (λ v. v.z) ac))

-- points with no difference are equal
pub same_point : (p q : Vector) → minus q p ≡ origin → p ≡ q
same_point p q e = vector_path p q (omega (arith, ints, ap (λ v. v.x) e)) (omega (arith, ints, ap (λ v. v.y) e)) (omega (arith, ints, ap (λ v. v.z) e))

-- ---- planes
-- the vector from a to b, from the vectors from i
pub between_eq : (n i a b : Vector) → dot n (minus b a) ≡ dot n (minus b i) -ℤ dot n (minus a i)
between_eq n i a b =
    ring (put n (put i (put a (put b [])))) (dotE (vec 0) (subE (vec 3) (vec 2)))
    (less (dotE (vec 0) (subE (vec 3) (vec 1))) (dotE (vec 0) (subE (vec 2) (vec 1)))) refl

-- a difference of zeros is zero
pub none : (l u v : ℤ) → l ≡ u -ℤ v → u ≡ pos 0 → v ≡ pos 0 → l ≡ pos 0
none l u v e p q = omega (arith, ints)

-- points in the plane of i, j and k are in one plane
pub four_plane : (i j k a b c d : Vector) → ¬ (AreInLine i j k) → vol i j k a ≡ pos 0 → vol i j k b ≡ pos 0
    → vol i j k c ≡ pos 0 → vol i j k d ≡ pos 0 → vol a b c d ≡ pos 0
unfolding vol cross
four_plane i j k a b c d ne p q r s =
    let n : Vector = cross_product (minus j i) (minus k i) in
    determinant-zero n (minus b a) (minus c a) (minus d a) (square-positive n ne) (none _ _ _ (between_eq n i a b) q p)
    (none _ _ _ (between_eq n i a c) r p) (none _ _ _ (between_eq n i a d) s p)
