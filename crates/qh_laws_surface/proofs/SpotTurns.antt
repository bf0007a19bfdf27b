-- The turns of a spot about the corners of a polygon, and the relations between them.
use Rattle.qh_laws_surface.proofs.ConvexLists.{none_back}
use Rattle.qh_laws_surface.specs.contract.Covering.{Spot, spot_turn, way_to}
use Rattle.qh_model.proofs.Common.{Vector, [], ap, arith, cross, cross_product, dot, ints, minus, neg_ℤ, pos, refl, sym, ℕ, ℤ, ◌*ℤ◌, ◌+ℤ◌, ◌-ℤ◌, ◌<ℤ◌, ◌∙◌, ◌∷◌}
use Rattle.qh_model.proofs.{Common.◌≡◌, algebra.Order.product_zero}
use Rattle.qh_model.proofs.algebra.Ring.{Expr, ring, Expr.add, Expr.con, Expr.mul, Expr.neg, Expr.sub as less, Expr.var}
use Rattle.qh_model.proofs.algebra.VectorIdentities.{VE, crossE, dot-minus, dotE, left-linear, leftE, put, subE, vec}
use Rattle.qh_model.specs.headline.Predicates.{left}
use Rattle.qh_polygon.proofs.LinesAndPlanes.{between_eq}

-- the vector from a corner to the spot, as expressions: the spot is vector 1, its scale the variable k
abbrev toE : ℕ → VE → VE
toE k u = record {
  x = less (vec 1).x (mul (var k) u.x);
  y = less (vec 1).y (mul (var k) u.y);
  z = less (vec 1).z (mul (var k) u.z);
}

-- the turn of the spot, as expressions: the normal is vector 0
abbrev spotE : ℕ → VE → VE → Expr
spotE k u v = dotE (crossE (subE v u) (toE k u)) (vec 0)

-- the turn about v and u is minus the turn about u and v
pub spot_turn-back : (n : Vector) (at : ℕ → Vector) (u v : ℕ) (s : Spot) → spot_turn n at v u s ≡ neg_ℤ (spot_turn n at u v s)
unfolding spot_turn
spot_turn-back n at u v s =
    ring (put n (put s.point (put (at u) (put (at v) (pos s.scale ∷ [])))))
    (spotE 12 (vec 3) (vec 2)) (neg (spotE 12 (vec 2) (vec 3))) refl

-- the turns round three corners add up to their own
pub spot_turns-add : (n : Vector) (at : ℕ → Vector) (u v w : ℕ) (s : Spot)
    → pos s.scale *ℤ left n (at u) (at v) (at w) ≡ spot_turn n at u v s +ℤ (spot_turn n at v w s +ℤ spot_turn n at w u s)
unfolding spot_turn left cross
spot_turns-add n at u v w s =
    ring (put n (put s.point (put (at u) (put (at v) (put (at w) (pos s.scale ∷ []))))))
    (mul (var 15) (leftE (vec 0) (vec 2) (vec 3) (vec 4)))
    (add (spotE 15 (vec 2) (vec 3)) (add (spotE 15 (vec 3) (vec 4)) (spotE 15 (vec 4) (vec 2)))) refl

pub scale-positive : (s : Spot) → pos 0 <ℤ pos s.scale
scale-positive s = let h = s.some in omega (arith, ints, h)

-- ---- sums weighted by the turns round three corners
-- the scalar products with the vectors from two points
pub way_height : (n u v : Vector) (s : Spot) → dot n (way_to v s) ≡ dot n (way_to u s) -ℤ pos s.scale *ℤ dot n (minus v u)
way_height n u v s =
    ring (put n (put s.point (put u (put v (pos s.scale ∷ [])))))
    (dotE (vec 0) (toE 12 (vec 3))) (less (dotE (vec 0) (toE 12 (vec 2))) (mul (var 12) (dotE (vec 0) (subE (vec 3) (vec 2))))) refl

-- Cramer's rule, with a fifth vector
pub cramer : (n p q x m : Vector) → dot (cross_product p q) n *ℤ dot m x
    ≡ dot (cross_product p q) x *ℤ dot m n +ℤ (dot (cross_product x q) n *ℤ dot m p +ℤ dot (cross_product p x) n *ℤ dot m q)
cramer n p q x m =
    let N = vec 0 in let P = vec 1 in let Q = vec 2 in let X = vec 3 in let M = vec 4 in
    ring (put n (put p (put q (put x (put m [])))))
    (mul (dotE (crossE P Q) N) (dotE M X))
    (add (mul (dotE (crossE P Q) X) (dotE M N)) (add (mul (dotE (crossE X Q) N) (dotE M P)) (mul (dotE (crossE P X) N) (dotE M Q)))) refl

-- the reversed vectors from a corner
product-flip : (n p q : Vector) → dot (cross_product p q) n ≡ neg_ℤ (dot (cross_product q p) n)
product-flip n p q =
    ring (put n (put p (put q []))) (dotE (crossE (vec 1) (vec 2)) (vec 0)) (neg (dotE (crossE (vec 2) (vec 1)) (vec 0))) refl

weighed_up : (l m h a v w av vw wa : ℤ) → m *ℤ l ≡ av +ℤ (vw +ℤ wa) → l *ℤ (h -ℤ m *ℤ a) ≡ wa *ℤ (v -ℤ a) +ℤ av *ℤ (w -ℤ a)
    → vw *ℤ a +ℤ (wa *ℤ v +ℤ av *ℤ w) ≡ l *ℤ h
weighed_up l m h a v w av vw wa e f =
    spread ∙ ap (λ z. z +ℤ (av +ℤ (vw +ℤ wa)) *ℤ a) (sym f) ∙ ap (λ z. l *ℤ (h -ℤ m *ℤ a) +ℤ z *ℤ a) (sym e) ∙ together
  where
    spread : vw *ℤ a +ℤ (wa *ℤ v +ℤ av *ℤ w) ≡ (wa *ℤ (v -ℤ a) +ℤ av *ℤ (w -ℤ a)) +ℤ (av +ℤ (vw +ℤ wa)) *ℤ a
    spread =
        let p = λ (i j : ℕ). mul (var i) (var j) in
        ring (a ∷ v ∷ w ∷ av ∷ vw ∷ wa ∷ []) (add (p 4 0) (add (p 5 1) (p 3 2)))
        (add (add (mul (var 5) (less (var 1) (var 0))) (mul (var 3) (less (var 2) (var 0)))) (mul (add (var 3) (add (var 4) (var 5))) (var 0))) refl

    together : l *ℤ (h -ℤ m *ℤ a) +ℤ m *ℤ l *ℤ a ≡ l *ℤ h
    together = ring (l ∷ m ∷ a ∷ h ∷ []) (add (mul (var 0) (less (var 3) (mul (var 1) (var 2)))) (mul (mul (var 1) (var 0)) (var 2))) (mul (var 0) (var 3)) refl

put_in : (d₁ m₁ l₁ d₂ m₂ d₃ e₃ m₃ l₃ d₄ m₄ l₄ : ℤ) → d₁ *ℤ m₁ ≡ d₂ *ℤ m₂ +ℤ (d₃ *ℤ m₃ +ℤ d₄ *ℤ m₄)
    → m₁ ≡ l₁ → d₂ *ℤ m₂ ≡ pos 0 → d₃ ≡ e₃ → m₃ ≡ l₃ → m₄ ≡ l₄ → d₁ *ℤ l₁ ≡ e₃ *ℤ l₃ +ℤ d₄ *ℤ l₄
put_in d₁ m₁ l₁ d₂ m₂ d₃ e₃ m₃ l₃ d₄ m₄ l₄ h q z r t u = rw (← q, ← r, ← t, ← u) (omega (arith, ints, h, z))

-- the scalar product of m with the vector from p to the spot is the sum of those with the vectors to three corners, weighted by their turns, if the spot lies
-- in the plane of the corners or m is at right angles to n
module _ (n : Vector) (at : ℕ → Vector) (s : Spot) (a v w : ℕ) (m p : Vector)
    (flat : dot (cross (at a) (at v) (at w)) (way_to (at a) s) *ℤ dot m n ≡ pos 0) where
  abbrev W : ℕ → ℤ
  W l = dot m (minus (at l) p)

  turned_back : dot (cross_product (way_to (at a) s) (minus (at w) (at a))) n ≡ spot_turn n at w a s
  unfolding spot_turn
  turned_back = product-flip n (way_to (at a) s) (minus (at w) (at a)) ∙ sym (spot_turn-back n at a w s)

  by_cramer : left n (at a) (at v) (at w) *ℤ (dot m (way_to p s) -ℤ pos s.scale *ℤ W a)
      ≡ spot_turn n at w a s *ℤ (W v -ℤ W a) +ℤ spot_turn n at a v s *ℤ (W w -ℤ W a)
  unfolding left spot_turn cross
  by_cramer = put_in _ _ _ (dot (cross_product (minus (at v) (at a)) (minus (at w) (at a))) (way_to (at a) s)) (dot m n) _ _ _ _ _ _ _
      (cramer n (minus (at v) (at a)) (minus (at w) (at a)) (way_to (at a) s) m)
      (way_height m p (at a) s) flat turned_back (between_eq m p (at a) (at v)) (between_eq m p (at a) (at w))

  pub weighed_ways : spot_turn n at v w s *ℤ W a +ℤ (spot_turn n at w a s *ℤ W v +ℤ spot_turn n at a v s *ℤ W w)
      ≡ left n (at a) (at v) (at w) *ℤ dot m (way_to p s)
  weighed_ways = weighed_up (left n (at a) (at v) (at w)) (pos s.scale) (dot m (way_to p s)) (W a) (W v) (W w)
      (spot_turn n at a v s) (spot_turn n at v w s) (spot_turn n at w a s) (spot_turns-add n at a v w s) by_cramer

-- ---- a turn as a scalar product
pub turn_way : (n : Vector) (at : ℕ → Vector) (u v : ℕ) (s : Spot) → spot_turn n at u v s ≡ dot (cross_product n (minus (at v) (at u))) (way_to (at u) s)
unfolding spot_turn
turn_way n at u v s =
    ring (put n (put (minus (at v) (at u)) (put (way_to (at u) s) []))) (dotE (crossE (vec 1) (vec 2)) (vec 0)) (dotE (crossE (vec 0) (vec 1)) (vec 2)) refl

pub left_way : (n x y u : Vector) → dot (cross_product n (minus y x)) (minus u x) ≡ left n x y u
left_way n x y u = dot-minus (cross_product n (minus y x)) u x ∙ sym (left-linear n x y u)

-- the turn about two corners is the sum of the turns about three others, weighted by the position of the spot between these
pub turns_mixed : (n : Vector) (at : ℕ → Vector) (s : Spot) (a v w x y : ℕ) → left n (at a) (at v) (at w) *ℤ spot_turn n at x y s
    ≡ spot_turn n at v w s *ℤ left n (at x) (at y) (at a)
    +ℤ (spot_turn n at w a s *ℤ left n (at x) (at y) (at v) +ℤ spot_turn n at a v s *ℤ left n (at x) (at y) (at w))
turns_mixed n at s a v w x y =
    ap (λ z. left n (at a) (at v) (at w) *ℤ z) (turn_way n at x y s) ∙ sym (weighed_ways n at s a v w m (at x) (product_zero _ (dot m n) across))
    ∙ rw (left_way n (at x) (at y) (at a), left_way n (at x) (at y) (at v), left_way n (at x) (at y) (at w)) refl
  where
    m : Vector
    m = cross_product n (minus (at y) (at x))

    across : dot m n ≡ pos 0
    across = ring (put n (put (minus (at y) (at x)) [])) (dotE (crossE (vec 0) (vec 1)) (vec 0)) (con (pos 0)) refl

-- so for four corners, the products of the turns in pairs add up to 0
pub turn_pairs : (n : Vector) (at : ℕ → Vector) (s : Spot) (c x y z : ℕ) → spot_turn n at c x s *ℤ spot_turn n at y z s
    +ℤ (spot_turn n at c y s *ℤ spot_turn n at z x s +ℤ spot_turn n at c z s *ℤ spot_turn n at x y s) ≡ pos 0
turn_pairs n at s c x y z = pairs (pos s.scale) (L c y z) (L c x y) (L c x z) (T c x) (T c y) (T c z) (T y z) (T x y) (T z x)
    (turns_mixed n at s c y z c x
    ∙ omega (arith, ints, product_zero (T y z) (L c x c) (none_back n at c x), ap (λ d. d *ℤ L c x y) (spot_turn-back n at c z s)))
    (omega (arith, ints, spot_turns-add n at c y z s, spot_turn-back n at c z s)) (omega (arith, ints, spot_turns-add n at c x y s, spot_turn-back n at c y s))
    (omega (arith, ints, spot_turns-add n at c x z s, spot_turn-back n at c z s, spot_turn-back n at z x s))
  where
    T : ℕ → ℕ → ℤ
    T u v = spot_turn n at u v s

    L : ℕ → ℕ → ℕ → ℤ
    L u v w = left n (at u) (at v) (at w)

    pairs : (m l lb lc t cy cz yz xy zx : ℤ) → l *ℤ t ≡ neg_ℤ cz *ℤ lb +ℤ cy *ℤ lc → m *ℤ l ≡ cy +ℤ (yz +ℤ neg_ℤ cz)
        → m *ℤ lb ≡ t +ℤ (xy +ℤ neg_ℤ cy) → m *ℤ lc ≡ t +ℤ (neg_ℤ zx +ℤ neg_ℤ cz) → t *ℤ yz +ℤ (cy *ℤ zx +ℤ cz *ℤ xy) ≡ pos 0
    pairs m l lb lc t cy cz yz xy zx e h k j =
        let p = λ (i j : ℕ). mul (var i) (var j) in
        ring (t ∷ cy ∷ cz ∷ yz ∷ xy ∷ zx ∷ []) (add (p 0 3) (add (p 1 5) (p 2 4)))
        (less (mul (add (var 1) (add (var 3) (neg (var 2)))) (var 0)) (add (mul (neg (var 2)) (add (var 0) (add (var 4) (neg (var 1)))))
        (mul (var 1) (add (var 0) (add (neg (var 5)) (neg (var 2))))))) refl
        ∙ rw (← h, ← k, ← j) (ring (m ∷ l ∷ lb ∷ lc ∷ t ∷ cy ∷ cz ∷ [])
        (less (mul (p 0 1) (var 4)) (add (mul (neg (var 6)) (p 0 2)) (mul (var 5) (p 0 3))))
        (mul (var 0) (less (p 1 4) (add (mul (neg (var 6)) (var 2)) (p 5 3)))) refl)
        ∙ product_zero m (l *ℤ t -ℤ (neg_ℤ cz *ℤ lb +ℤ cy *ℤ lc)) (omega (arith, ints, e))
