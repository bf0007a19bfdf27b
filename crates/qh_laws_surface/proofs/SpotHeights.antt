-- Heights of a spot over planes, and the side of another plane on which a spot in a triangle lies.
use Rattle.qh_model.proofs.Common.{◌≡◌, ◌≢◌, ℕ, arith, sym, ap, ◌∙◌, ints, ◌↔◌, ℤ, pos, ◌+ℤ◌, ◌*ℤ◌, ◌≤ℤ◌, ◌<ℤ◌, cross, vol, Vector, minus, dot, cross_product}
use Rattle.qh_model.proofs.Common.{origin, IsAlong}
use Rattle.qh_model.specs.headline.Predicates.{left}
use Rattle.qh_model.proofs.{polygons.PlaneTurns.parallel_dot, polygons.PlaneTurns.level_parallel, algebra.Integers.zero_mul}
use Rattle.qh_model.proofs.algebra.Order.{cancel-zero, cancel-nonpos, product_zero, mul-nonneg_nonpos, positive_le}
use Rattle.qh_model.proofs.algebra.VectorIdentities.{vector_path, dot_comm, vol-dot, vol-first}
use Rattle.qh_model.proofs.extremes.Directions.{at_least_along, Parallel, parallel_product, square-positive, from_plane, dot_along, positive_along, zero_along}
use Rattle.qh_laws.proofs.Signs.{above, is_above, above_is}
use Rattle.qh_laws_surface.proofs.{StepCounts.alike_tests, SpotTurns.way_height, SpotTurns.weighed_ways}
use Rattle.qh_laws_surface.specs.contract.Covering.{Spot, way_to, spot_height, spot_turn}

-- a spot in the plane of i, j and k, with respect to any point of the plane
level_way : (at : ℕ → Vector) (i j k u : ℕ) (s : Spot) → spot_height at i j k s ≡ pos 0 → vol (at i) (at j) (at k) (at u) ≡ pos 0
    → dot (cross (at i) (at j) (at k)) (way_to (at u) s) ≡ pos 0
unfolding spot_height
level_way at i j k u s h e =
    let n = cross (at i) (at j) (at k) in
    let d : dot n (minus (at u) (at i)) ≡ pos 0 = sym (vol-dot (at i) (at j) (at k) (at u)) ∙ e in
    omega (arith, ints, way_height n (at i) (at u) s, h, product_zero (pos s.scale) (dot n (minus (at u) (at i))) d)

-- the converse: the spot lies in the plane
way_level : (at : ℕ → Vector) (i j k u : ℕ) (s : Spot) → vol (at i) (at j) (at k) (at u) ≡ pos 0
    → dot (cross (at i) (at j) (at k)) (way_to (at u) s) ≡ pos 0 → spot_height at i j k s ≡ pos 0
unfolding spot_height
way_level at i j k u s e h =
    let n = cross (at i) (at j) (at k) in
    let d : dot n (minus (at u) (at i)) ≡ pos 0 = sym (vol-dot (at i) (at j) (at k) (at u)) ∙ e in
    omega (arith, ints, way_height n (at i) (at u) s, h, product_zero (pos s.scale) (dot n (minus (at u) (at i))) d)

-- so the spot lies in each plane of the same direction through one of its points
pub along_height : (at : ℕ → Vector) (i j k a b c : ℕ) (s : Spot) → IsAlong (cross (at i) (at j) (at k)) (cross (at a) (at b) (at c))
    → spot_height at i j k s ≡ pos 0 → vol (at i) (at j) (at k) (at a) ≡ pos 0 → spot_height at a b c s ≡ pos 0
along_height at i j k a b c s l h e = way_level at a b c a s (vol-first (at a) (at b) (at c)) (zero_along l.s l.t _ _ l.some_t
    (dot_along (cross (at i) (at j) (at k)) (cross (at a) (at b) (at c)) l (way_to (at a) s)) (level_way at i j k a s h e))

-- no turn about two corners of the plane is 0, if the spot is off their line
pub off_line : (at : ℕ → Vector) (i j k u v : ℕ) (s : Spot) → cross (at i) (at j) (at k) ≢ origin → spot_height at i j k s ≡ pos 0
    → vol (at i) (at j) (at k) (at u) ≡ pos 0 → vol (at i) (at j) (at k) (at v) ≡ pos 0
    → ¬ (cross_product (minus (at v) (at u)) (way_to (at u) s) ≡ origin) → ¬ (spot_turn (cross (at i) (at j) (at k)) at u v s ≡ pos 0)
unfolding spot_turn
off_line at i j k u v s some h hu hv off e = off (vector_path r origin (none r.x n.x par.x) (none r.y n.y par.y) (none r.z n.z par.z))
  where
    n : Vector
    n = cross (at i) (at j) (at k)

    r : Vector
    r = cross_product (minus (at v) (at u)) (way_to (at u) s)

    par : Parallel n r
    par = parallel_product n (minus (at v) (at u)) (way_to (at u) s) (from_plane (at i) (at j) (at k) (at u) (at v) hu ∙ hv) (level_way at i j k u s h hu)

    flat : dot n r ≡ pos 0
    flat = dot_comm n r ∙ e

    none : (y x : ℤ) → dot n n *ℤ y ≡ dot n r *ℤ x → y ≡ pos 0
    none y x q = cancel-zero (dot n n) y (square-positive n some) (q ∙ ap (λ z. z *ℤ x) flat ∙ zero_mul x)

-- two numbers of the same sign
pub above_alike : (x y : ℤ) → (pos 0 <ℤ x) ↔ (pos 0 <ℤ y) → above x ≡ above y
above_alike x y h = alike_tests (above x) (above y) (λ e. is_above y (h.0 (above_is x e)), λ e. is_above x (h.1 (above_is y e)))

-- turns about normals of the same direction
turn_along : (n m : Vector) (at : ℕ → Vector) (u v : ℕ) (s : Spot) (h : IsAlong n m) → pos h.s *ℤ spot_turn n at u v s ≡ pos h.t *ℤ spot_turn m at u v s
unfolding spot_turn
turn_along n m at u v s h =
    let r = cross_product (minus (at v) (at u)) (way_to (at u) s) in
    ap (λ z. pos h.s *ℤ z) (dot_comm r n) ∙ dot_along n m h r ∙ ap (λ z. pos h.t *ℤ z) (dot_comm m r)

pub not_right_along : (n m : Vector) (at : ℕ → Vector) (u v : ℕ) (s : Spot) → IsAlong n m → pos 0 ≤ℤ spot_turn n at u v s → pos 0 ≤ℤ spot_turn m at u v s
not_right_along n m at u v s h = at_least_along h.s h.t _ _ h.some_s h.some_t (turn_along n m at u v s h)

pub above_along : (n m : Vector) (at : ℕ → Vector) (u v : ℕ) (s : Spot) → IsAlong n m → above (spot_turn n at u v s) ≡ above (spot_turn m at u v s)
above_along n m at u v s h = above_alike (spot_turn n at u v s) (spot_turn m at u v s) (
  positive_along h.s h.t _ _ h.some_s h.some_t (turn_along n m at u v s h),
  positive_along h.t h.s _ _ h.some_t h.some_s (sym (turn_along n m at u v s h)),
)

-- ---- a spot in a triangle of one plane, and in another plane
module _ (at : ℕ → Vector) (s : Spot) (i j k : ℕ) (some : cross (at i) (at j) (at k) ≢ origin) (h : spot_height at i j k s ≡ pos 0) (a v w : ℕ)
    (ha : vol (at i) (at j) (at k) (at a) ≡ pos 0) (hv : vol (at i) (at j) (at k) (at v) ≡ pos 0) (hw : vol (at i) (at j) (at k) (at w) ≡ pos 0) where
  abbrev n : Vector
  n = cross (at i) (at j) (at k)

  -- the vector to the spot lies in the plane
  flat_way : dot (cross (at a) (at v) (at w)) (way_to (at a) s) ≡ pos 0
  flat_way = cancel-zero (dot n n) _ (square-positive n some)
      (parallel_dot n (cross (at a) (at v) (at w)) (way_to (at a) s) (level_parallel (at i) (at j) (at k) (at a) (at v) (at w) ha hv hw)
      ∙ product_zero (dot n (cross (at a) (at v) (at w))) (dot n (way_to (at a) s)) (level_way at i j k a s h ha))

  -- the heights of the corners, weighed by the turns, add up to that of the spot
  module _ (x y z : ℕ) where
    abbrev H : ℕ → ℤ
    H l = vol (at x) (at y) (at z) (at l)

    weighed : spot_turn n at v w s *ℤ H a +ℤ (spot_turn n at w a s *ℤ H v +ℤ spot_turn n at a v s *ℤ H w)
        ≡ left n (at a) (at v) (at w) *ℤ spot_height at x y z s
    unfolding spot_height
    weighed = rw (vol-dot (at x) (at y) (at z) (at a), vol-dot (at x) (at y) (at z) (at v), vol-dot (at x) (at y) (at z) (at w))
        (weighed_ways n at s a v w m (at x) (ap (λ d. d *ℤ dot m n) flat_way ∙ zero_mul (dot m n)))
      where
        m : Vector
        m = cross (at x) (at y) (at z)

    -- the heights of a spot inside the triangle
    module _ (av : pos 0 <ℤ spot_turn n at a v s) (vw : pos 0 <ℤ spot_turn n at v w s) (wa : pos 0 <ℤ spot_turn n at w a s)
        (la : H a ≤ℤ pos 0) (lv : H v ≤ℤ pos 0) (lw : H w ≤ℤ pos 0) where
      pa : (spot_turn n at v w s *ℤ H a) ≤ℤ pos 0
      pa = mul-nonneg_nonpos (spot_turn n at v w s) (H a) (positive_le _ vw) la

      pv : (spot_turn n at w a s *ℤ H v) ≤ℤ pos 0
      pv = mul-nonneg_nonpos (spot_turn n at w a s) (H v) (positive_le _ wa) lv

      pw : (spot_turn n at a v s *ℤ H w) ≤ℤ pos 0
      pw = mul-nonneg_nonpos (spot_turn n at a v s) (H w) (positive_le _ av) lw

      -- the spot is not above the other plane if no corner is
      pub not_above_plane : pos 0 <ℤ left n (at a) (at v) (at w) → spot_height at x y z s ≤ℤ pos 0
      not_above_plane l = cancel-nonpos (left n (at a) (at v) (at w)) (spot_height at x y z s) l (omega (arith, ints, weighed, pa, pv, pw))

      -- if the spot lies in that plane, all corners do
      pub all_level : spot_height at x y z s ≡ pos 0 → (H a ≡ pos 0) × ((H v ≡ pos 0) × (H w ≡ pos 0))
      all_level e = (
        cancel-zero (spot_turn n at v w s) (H a) vw (omega (arith, ints, none, pa, pv, pw)),
        (
          cancel-zero (spot_turn n at w a s) (H v) wa (omega (arith, ints, none, pa, pv, pw)),
          cancel-zero (spot_turn n at a v s) (H w) av (omega (arith, ints, none, pa, pv, pw)),
        ),
      )
        where
          none : spot_turn n at v w s *ℤ H a +ℤ (spot_turn n at w a s *ℤ H v +ℤ spot_turn n at a v s *ℤ H w) ≡ pos 0
          none = weighed ∙ product_zero (left n (at a) (at v) (at w)) (spot_height at x y z s) e
