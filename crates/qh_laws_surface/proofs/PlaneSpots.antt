-- Spots of a plane, given by three whole numbers or by weights of three corners. Their turns and heights are scalar products.
use Rattle.qh_laws_surface.proofs.SpotTurns.{cramer, left_way, turn_way, way_height}
use Rattle.qh_laws_surface.specs.contract.Covering.{Spot, spot_height, spot_turn, way_to}
use Rattle.qh_model.proofs.Common.{Vector, [], ap, arith, cross, cross_product, dot, ints, minus, pos, refl, sym, vol, ℕ, ℤ, ◌*ℤ◌, ◌+ℤ◌, ◌+◌, ◌-ℤ◌, ◌<◌, ◌∙◌}
use Rattle.qh_model.proofs.{Common.◌∷◌, Common.◌≡◌, algebra.Integers.mul_add, algebra.Integers.zero_mul, algebra.Order.product_zero, algebra.Ring.ring}
use Rattle.qh_model.proofs.algebra.Ring.Expr.{add, mul, sub as less, var}
use Rattle.qh_model.proofs.algebra.VectorIdentities.{dotE, put, subE, vec, vol-dot, vol-first, vol-second, vol-third}
use Rattle.qh_model.specs.headline.Predicates.{left}

-- x, y and z
abbrev pub triple : ℤ → ℤ → ℤ → Vector
triple x y z = record { x = x; y = y; z = z }

module _ (at : ℕ → Vector) (i j k : ℕ) where
  abbrev n : Vector
  n = cross (at i) (at j) (at k)

  abbrev P : Vector
  P = minus (at j) (at i)

  abbrev Q : Vector
  Q = minus (at k) (at i)

  abbrev D : ℤ
  D = left n (at i) (at j) (at k)

  -- the scalar product of m with the vector from u, as a form
  abbrev pub form : Vector → Vector → Vector
  form m u = triple (dot m (minus (at i) u)) (dot m P) (dot m Q)

  -- the turn about u and v
  unfoldable pub turn_form : ℕ → ℕ → Vector
  turn_form u v = form (cross_product n (minus (at v) (at u))) (at u)

  -- the height over three corners
  unfoldable pub height_form : ℕ → ℕ → ℕ → Vector
  height_form x y z = form (cross (at x) (at y) (at z)) (at x)

  -- the spot of three numbers, the first above 0
  unfoldable pub spot_at : (c : ℕ) → 0 < c → ℤ → ℤ → Spot
  spot_at c h y z = record {
    point = record {
      x = pos c *ℤ (at i).x +ℤ (y *ℤ P.x +ℤ z *ℤ Q.x);
      y = pos c *ℤ (at i).y +ℤ (y *ℤ P.y +ℤ z *ℤ Q.y);
      z = pos c *ℤ (at i).z +ℤ (y *ℤ P.z +ℤ z *ℤ Q.z);
    };
    scale = c;
    some = h;
  }

  form_at : (m u : Vector) (c : ℕ) (h : 0 < c) (y z : ℤ) → dot m (way_to u (spot_at c h y z)) ≡ dot (form m u) (triple (pos c) y z)
  unfolding spot_at
  form_at m u c h y z =
      let M = vec 0 in let I = vec 1 in let B = vec 2 in let E = vec 3 in let U = vec 4 in
      let C = var 15 in let Y = var 16 in let Z = var 17 in
      ring (put m (put (at i) (put P (put Q (put u (pos c ∷ y ∷ z ∷ []))))))
      (dotE M (record {
        x = less (add (mul C I.x) (add (mul Y B.x) (mul Z E.x))) (mul C U.x);
        y = less (add (mul C I.y) (add (mul Y B.y) (mul Z E.y))) (mul C U.y);
        z = less (add (mul C I.z) (add (mul Y B.z) (mul Z E.z))) (mul C U.z);
      }))
      (add (add (mul (dotE M (subE I U)) C) (mul (dotE M B) Y)) (mul (dotE M E) Z)) refl

  pub turn_at : (c : ℕ) (h : 0 < c) (y z : ℤ) (u v : ℕ) → spot_turn n at u v (spot_at c h y z) ≡ dot (turn_form u v) (triple (pos c) y z)
  unfolding turn_form
  turn_at c h y z u v = turn_way n at u v (spot_at c h y z) ∙ form_at (cross_product n (minus (at v) (at u))) (at u) c h y z

  pub height_at : (c : ℕ) (h : 0 < c) (y z : ℤ) (u v w : ℕ) → spot_height at u v w (spot_at c h y z) ≡ dot (height_form u v w) (triple (pos c) y z)
  unfolding height_form spot_height
  height_at c h y z u v w = form_at (cross (at u) (at v) (at w)) (at u) c h y z

  -- this spot lies in the plane
  pub level_at : (c : ℕ) (h : 0 < c) (y z : ℤ) → spot_height at i j k (spot_at c h y z) ≡ pos 0
  unfolding spot_height
  level_at c h y z = form_at n (at i) c h y z ∙ zeros (dot n (minus (at i) (at i))) (dot n P) (dot n Q) (pos c) y z
      (sym (vol-dot (at i) (at j) (at k) (at i)) ∙ vol-first (at i) (at j) (at k))
      (sym (vol-dot (at i) (at j) (at k) (at j)) ∙ vol-second (at i) (at j) (at k))
      (sym (vol-dot (at i) (at j) (at k) (at k)) ∙ vol-third (at i) (at j) (at k))
    where
      zeros : (a b d c y z : ℤ) → a ≡ pos 0 → b ≡ pos 0 → d ≡ pos 0 → a *ℤ c +ℤ b *ℤ y +ℤ d *ℤ z ≡ pos 0
      zeros a b d c y z e f g = rw (e, f, g) (omega (arith, ints, zero_mul c, zero_mul y, zero_mul z))

  -- ---- the numbers of a spot of the plane
  unfoldable pub numbers : Spot → Vector
  numbers s = triple (D *ℤ pos s.scale) (dot (cross_product (way_to (at i) s) Q) n) (dot (cross_product P (way_to (at i) s)) n)

  -- these numbers give the spot, scaled by the turn of the corners
  form_of : (s : Spot) → spot_height at i j k s ≡ pos 0 → (m u : Vector) → dot (form m u) (numbers s) ≡ D *ℤ dot m (way_to u s)
  unfolding numbers spot_height left cross
  form_of s level m u =
      let x = way_to (at i) s in
      sym (ap (λ t. D *ℤ t) way_from
      ∙ spread D (dot m x) (pos s.scale) (dot m (minus (at i) u)) (dot m P) (dot (cross_product x Q) n) (dot m Q) (dot (cross_product P x) n)
      (dot (cross_product P Q) x) (dot m n) level (cramer n P Q x m))
    where
      way_from : dot m (way_to u s) ≡ dot m (way_to (at i) s) +ℤ pos s.scale *ℤ dot m (minus (at i) u)
      way_from = let e = way_height m u (at i) s in omega (arith, ints, e)

      spread : (d t w l mp xq mq px pq mn : ℤ) → pq ≡ pos 0 → d *ℤ t ≡ pq *ℤ mn +ℤ (xq *ℤ mp +ℤ px *ℤ mq)
          → d *ℤ (t +ℤ w *ℤ l) ≡ l *ℤ (d *ℤ w) +ℤ mp *ℤ xq +ℤ mq *ℤ px
      spread d t w l mp xq mq px pq mn z e = mul_add d t (w *ℤ l) ∙ omega (arith, ints, e, moved, ap (λ b. b *ℤ mn) z ∙ zero_mul mn)
        where
          moved : d *ℤ (w *ℤ l) ≡ l *ℤ (d *ℤ w)
          moved = ring (d ∷ w ∷ l ∷ []) (mul (var 0) (mul (var 1) (var 2))) (mul (var 2) (mul (var 0) (var 1))) refl

  pub turn_of : (s : Spot) → spot_height at i j k s ≡ pos 0 → (u v : ℕ) → dot (turn_form u v) (numbers s) ≡ D *ℤ spot_turn n at u v s
  unfolding turn_form
  turn_of s level u v = form_of s level (cross_product n (minus (at v) (at u))) (at u) ∙ ap (λ t. D *ℤ t) (sym (turn_way n at u v s))

  pub height_of : (s : Spot) → spot_height at i j k s ≡ pos 0 → (u v w : ℕ) → dot (height_form u v w) (numbers s) ≡ D *ℤ spot_height at u v w s
  unfolding height_form spot_height
  height_of s level u v w = form_of s level (cross (at u) (at v) (at w)) (at u)

module _ (at : ℕ → Vector) (u v w : ℕ) (a b c : ℕ) (some : 0 < a) where
  unfoldable pub between : Spot
  between = record {
    point = record {
      x = pos a *ℤ (at u).x +ℤ (pos b *ℤ (at v).x +ℤ pos c *ℤ (at w).x);
      y = pos a *ℤ (at u).y +ℤ (pos b *ℤ (at v).y +ℤ pos c *ℤ (at w).y);
      z = pos a *ℤ (at u).z +ℤ (pos b *ℤ (at v).z +ℤ pos c *ℤ (at w).z);
    };
    scale = a + (b + c);
    some = omega (arith, some);
  }

  between_way : (m p : Vector) → dot m (way_to p between)
      ≡ pos a *ℤ dot m (minus (at u) p) +ℤ (pos b *ℤ dot m (minus (at v) p) +ℤ pos c *ℤ dot m (minus (at w) p))
  unfolding between
  between_way m p =
      let M = vec 0 in let O = vec 1 in let U = vec 2 in let V = vec 3 in let W = vec 4 in
      let A = var 15 in let B = var 16 in let C = var 17 in let S = var 18 in
      ring (put m (put p (put (at u) (put (at v) (put (at w) (pos a ∷ pos b ∷ pos c ∷ pos (a + (b + c)) ∷ []))))))
      (dotE M (record {
        x = less (add (mul A U.x) (add (mul B V.x) (mul C W.x))) (mul S O.x);
        y = less (add (mul A U.y) (add (mul B V.y) (mul C W.y))) (mul S O.y);
        z = less (add (mul A U.z) (add (mul B V.z) (mul C W.z))) (mul S O.z);
      }))
      (add (add (mul A (dotE M (subE U O))) (add (mul B (dotE M (subE V O))) (mul C (dotE M (subE W O))))) (mul (less (add A (add B C)) S) (dotE M O))) refl
      ∙ omega (arith, ints, ap (λ z. z *ℤ dot m p) weights ∙ zero_mul (dot m p))
    where
      weights : pos a +ℤ (pos b +ℤ pos c) -ℤ pos (a + (b + c)) ≡ pos 0
      weights = omega (arith, ints)

  pub between_turn : (n : Vector) (x y : ℕ) → spot_turn n at x y between
      ≡ pos a *ℤ left n (at x) (at y) (at u) +ℤ (pos b *ℤ left n (at x) (at y) (at v) +ℤ pos c *ℤ left n (at x) (at y) (at w))
  between_turn n x y = turn_way n at x y between ∙ between_way (cross_product n (minus (at y) (at x))) (at x)
      ∙ rw (left_way n (at x) (at y) (at u), left_way n (at x) (at y) (at v), left_way n (at x) (at y) (at w)) refl

  -- the spot lies in each plane through all three corners
  pub between_level : (i j k : ℕ) → vol (at i) (at j) (at k) (at u) ≡ pos 0 → vol (at i) (at j) (at k) (at v) ≡ pos 0
      → vol (at i) (at j) (at k) (at w) ≡ pos 0 → spot_height at i j k between ≡ pos 0
  unfolding spot_height
  between_level i j k hu hv hw = between_way n (at i) ∙ omega (
    arith,
    ints,
    product_zero (pos a) (dot n (minus (at u) (at i))) (sym (vol-dot (at i) (at j) (at k) (at u)) ∙ hu),
    product_zero (pos b) (dot n (minus (at v) (at i))) (sym (vol-dot (at i) (at j) (at k) (at v)) ∙ hv),
    product_zero (pos c) (dot n (minus (at w) (at i))) (sym (vol-dot (at i) (at j) (at k) (at w)) ∙ hw),
  )
    where
      n : Vector
      n = cross (at i) (at j) (at k)
