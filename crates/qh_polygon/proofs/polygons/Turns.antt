-- Turns of points of one plane, and their laws.
use Rattle.qh_model.proofs.Common.{◌∙◌, ◌≡◌, ℕ, refl, [], arith, sym, subst, ints, ℤ, pos, neg_ℤ, ◌≤ℤ◌, ◌<ℤ◌, cross, Vector, minus, dot}
use Rattle.qh_model.proofs.algebra.{Ring.Expr, Ring.ring, Signs.opposite_nonneg}
use Rattle.qh_model.proofs.algebra.VectorIdentities.{vec, subE, crossE, dotE, put, left-flip, dot-minus, left-turn}
use Rattle.qh_model.specs.headline.Predicates.{left}
use Rattle.qh_polygon.proofs.PlaneDirections.{bracket, bracket-fan, fan_sign, fan_sign_left}
use Rattle.qh_polygon.proofs.polygons.TurnLaws.{TurnLaws}

-- the ids of A lie in one plane across n
pub record IsFlat (n : Vector) (at : ℕ → Vector) (A : ℕ → Type 0) : Type 0 where
  pub even : (i j : ℕ) → A i → A j → dot n (minus (at j) (at i)) ≡ pos 0
  pub some : pos 0 <ℤ dot n n

-- ---- for points
-- the turn as a bracket of the two steps
pub left-middle : (n u v w : Vector) → left n u v w ≡ bracket n (minus v u) (minus w v)
unfolding left cross
left-middle n u v w =
    ring (put n (put u (put v (put w [])))) (dotE (crossE (subE (vec 2) (vec 1)) (subE (vec 3) (vec 1))) (vec 0))
    (dotE (crossE (subE (vec 2) (vec 1)) (subE (vec 3) (vec 2))) (vec 0)) refl

-- the turn as a bracket of the vectors from the first point
pub left-bracket : (n u v w : Vector) → left n u v w ≡ bracket n (minus v u) (minus w u)
unfolding left cross
left-bracket n u v w = refl

-- with the first and last exchanged: L r t x = [t - x, t - r]
left-last : (n r t x : Vector) → left n r t x ≡ bracket n (minus t x) (minus t r)
unfolding left cross
left-last n r t x = ring (put n (put r (put t (put x []))))
    (dotE (crossE (subE (vec 2) (vec 1)) (subE (vec 3) (vec 1))) (vec 0)) (dotE (crossE (subE (vec 2) (vec 3)) (subE (vec 2) (vec 1))) (vec 0)) refl

-- L t y x = [t - x, y - t]
left-across : (n t y x : Vector) → left n t y x ≡ bracket n (minus t x) (minus y t)
left-across n t y x = left-turn n t y x ∙ left-turn n y x t ∙ left-middle n x t y

-- the turn in the opposite direction along its first step
pub left-swap : (n u v w : Vector) → left n u v w ≡ neg_ℤ (left n v u w)
left-swap n u v w = left-turn n u v w ∙ left-flip n v w u

-- staying is no turn
pub left-there : (n t y : Vector) → left n t y y ≡ pos 0
unfolding left cross
left-there n t y = ring (put n (put t (put y []))) (dotE (crossE (subE (vec 2) (vec 1)) (subE (vec 2) (vec 1))) (vec 0)) (Expr.con (pos 0)) refl

-- nor is there and back
pub left-back : (n t y : Vector) → left n t y t ≡ pos 0
left-back n t y = left-turn n t y t ∙ left-there n y t

-- a higher point lies ahead
pub forward : (h u v : Vector) → dot h u <ℤ dot h v → pos 0 <ℤ dot h (minus v u)
forward h u v k = omega (arith, ints, dot-minus h v u)

-- different ids of A have different keys
pub record IsKeyed (h : Vector) (at : ℕ → Vector) (A : ℕ → Type 0) : Type 0 where
  pub same : (i j : ℕ) → A i → A j → dot h (at i) ≡ dot h (at j) → i ≡ j

-- the turn of three ids about n
abbrev pub turn_about : Vector → (ℕ → Vector) → ℕ → ℕ → ℕ → ℤ
turn_about n at u v w = left n (at u) (at v) (at w)

-- the height of an id along h
abbrev pub height_of : Vector → (ℕ → Vector) → ℕ → ℤ
height_of h at u = dot h (at u)

-- the vector between two ids
abbrev pub step : (ℕ → Vector) → ℕ → ℕ → Vector
step at u v = minus (at v) (at u)

-- points of one plane that differ in height satisfy the laws of turns
pub turn_laws : (n h : Vector) (at : ℕ → Vector) (A : ℕ → Type 0) → IsFlat n at A → IsKeyed h at A → TurnLaws (turn_about n at) (height_of h at) A
turn_laws n h at A flat keyed = record {
  about = λ t c x y at' ac ax ay tc tx ty nl l. subst (λ v. pos 0 ≤ℤ v) (sym (left-bracket n (at t) (at y) (at x)))
      (fan_sign (bracket n (step at t y) (step at t x)) (dot h (step at t c)) (bracket n (step at t y) (step at t c))
      (dot h (step at t x)) (bracket n (step at t c) (step at t x)) (dot h (step at t y))
      (bracket-fan n h (step at t y) (step at t c) (step at t x) flat.some (flat.even t y at' ay) (flat.even t c at' ac)
      (flat.even t x at' ax)) (fwd t y ty) (fwd t c tc) (fwd t x tx)
      (subst (λ v. pos 0 ≤ℤ v) (left-bracket n (at t) (at y) (at c)) (opposite_nonneg _ _ (left-flip n (at t) (at c) (at y)) nl))
      (subst (λ v. pos 0 ≤ℤ v) (left-bracket n (at t) (at c) (at x)) l));
  onward = λ u v w y au av aw ay uv vw vy sh l. subst (λ v. pos 0 <ℤ v) (sym (left-middle n (at u) (at v) (at y)))
      (fan_sign_left (bracket n (step at u v) (step at v y)) (dot h (step at v w))
      (bracket n (step at u v) (step at v w)) (dot h (step at v y)) (bracket n (step at v w) (step at v y)) (dot h (step at u v))
      (bracket-fan n h (step at u v) (step at v w) (step at v y) flat.some (flat.even u v au av) (flat.even v w av aw)
      (flat.even v y av ay)) (fwd u v uv) (fwd v w vw) (fwd v y vy) (subst (λ v. pos 0 <ℤ v) (left-middle n (at u) (at v) (at w)) sh)
      (subst (λ v. pos 0 ≤ℤ v) (left-bracket n (at v) (at w) (at y)) l));
  behind = λ r t x y ar at' ax ay xt rt ty l sh. subst (λ v. pos 0 ≤ℤ v) (sym (left-across n (at t) (at y) (at x)))
      (fan_sign (bracket n (step at x t) (step at t y)) (dot h (step at r t)) (bracket n (step at x t) (step at r t))
      (dot h (step at t y)) (bracket n (step at r t) (step at t y)) (dot h (step at x t))
      (bracket-fan n h (step at x t) (step at r t) (step at t y) flat.some (flat.even x t ax at') (flat.even r t ar at')
      (flat.even t y at' ay)) (fwd x t xt) (fwd r t rt) (fwd t y ty) (subst (λ v. pos 0 ≤ℤ v) (left-last n (at r) (at t) (at x)) l)
      (subst (λ v. pos 0 ≤ℤ v) (left-middle n (at r) (at t) (at y)) sh));
  swap = λ t y x. left-swap n (at t) (at y) (at x);
  back = λ t y. left-back n (at t) (at y);
  there = λ t y. left-there n (at t) (at y);
  same = λ x y ax ay e. keyed.same x y ax ay e;
}
  where
    fwd : (u v : ℕ) → dot h (at u) <ℤ dot h (at v) → pos 0 <ℤ dot h (step at u v)
    fwd u v k = forward h (at u) (at v) k
