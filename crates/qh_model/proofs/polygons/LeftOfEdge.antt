-- The side to the left of an edge in the plane of its face: the other members of the plane lie there.
use Rattle.qh_model.proofs.Common.{AreInLine, Extreme, Follows, HasDistinctPoints, IsFacePolygon, IsSupportingTriple, List, Members, OnPlane, SpannedByExtremes}
use Rattle.qh_model.proofs.Common.{Vector, ap, arith, by_lt_z, cross, cross_product, dite, dot, inl, inr, ints, minus, pos, refl, subst, sym, vol, ℕ}
use Rattle.qh_model.proofs.Common.{ℕ_discrete, ℤ, ◌*ℤ◌, ◌<ℤ◌, ◌∙◌, ◌≡◌, ◌≢◌, ◌≤ℤ◌, ◌⊎◌}
use Rattle.qh_model.proofs.algebra.{Order.cancel-nonpos, Order.mul-nonneg_nonpos, Order.positive_le, Order.zero_or_not, VectorIdentities.dot-opposite}
use Rattle.qh_model.proofs.algebra.VectorIdentities.{in_line-last, in_line-left, in_line-twice, left-linear, opposite, vol-first, vol-second, vol-third}
use Rattle.qh_model.proofs.{combinations.Alternatives.all_lower, extremes.Directions.in_line-flip, extremes.Directions.square-positive}
use Rattle.qh_model.proofs.extremes.{ExtremeIds.combination_of_extremes, ExtremeIds.listed_itself, ExtremeIds.listed_part, Faces.extremes_of_face}
use Rattle.qh_model.proofs.{extremes.SpanningTriples.planes_of_extremes, polygons.Neighbours.follows_members, polygons.PlaneTurns.level_volume}
use Rattle.qh_model.specs.headline.Predicates.{left}

-- ---- signs
-- s x = l y with s above 0
pub at_most : (s l x y : ℤ) → pos 0 <ℤ s → s *ℤ x ≡ l *ℤ y → pos 0 ≤ℤ l → y ≤ℤ pos 0 → x ≤ℤ pos 0
at_most s l x y h e p q = cancel-nonpos s x h (subst (λ v. v ≤ℤ pos 0) (sym e) (mul-nonneg_nonpos l y p q))

-- the same strictly
pub below : (s l x y : ℤ) → pos 0 <ℤ s → s *ℤ x ≡ l *ℤ y → pos 0 <ℤ l → y <ℤ pos 0 → x <ℤ pos 0
below = grind arith

-- s x = l y with s above 0, y below 0 and x not above 0
pub turn_sign : (s l x y : ℤ) → pos 0 <ℤ s → s *ℤ x ≡ l *ℤ y → y <ℤ pos 0 → x ≤ℤ pos 0 → pos 0 ≤ℤ l
turn_sign = grind arith

-- ---- a third member
-- of three different numbers one is different from two given ones
other_of_three : (x y z u v : ℕ) → x ≢ y → y ≢ z → x ≢ z → (w : ℕ) × ((w ≡ x) ⊎ (w ≡ y) ⊎ (w ≡ z)) × (w ≢ u) × (w ≢ v)
other_of_three x y z u v xy yz xz = by_decision (ℕ_discrete x u) (ℕ_discrete x v) (ℕ_discrete y u) (ℕ_discrete y v)
  where
    by_decision : Dec (x ≡ u) → Dec (x ≡ v) → Dec (y ≡ u) → Dec (y ≡ v)
        → (w : ℕ) × ((w ≡ x) ⊎ (w ≡ y) ⊎ (w ≡ z)) × (w ≢ u) × (w ≢ v)
    by_decision (no a) (no b) c d = (x, inl refl, a, b)
    by_decision a b (no c) (no d) = (y, inr (inl refl), c, d)
    by_decision (yes a) b (yes c) d = absurd (xy (a ∙ sym c))
    by_decision a (yes b) c (yes d) = absurd (xy (b ∙ sym d))
    by_decision (yes a) (no b) (no c) (yes d) = (z, inr (inr refl), (λ e. xz (a ∙ sym e)), (λ e. yz (d ∙ sym e)))
    by_decision (no a) (yes b) (yes c) (no d) = (z, inr (inr refl), (λ e. yz (c ∙ sym e)), (λ e. xz (b ∙ sym e)))

-- a supporting plane, its polygon, and two neighbours on it
pub record Way (at : ℕ → Vector) (A : ℕ → Type 0) (i j k : ℕ) (q : List ℕ) (u v : ℕ) : Type 0 where
  pub triple : IsSupportingTriple at A i j k
  pub face : IsFacePolygon at A i j k q
  pub follows : Follows u v q

-- a third member of the polygon, to the left of the line from u to v
pub record Third (at : ℕ → Vector) (A : ℕ → Type 0) (i j k u v : ℕ) : Type 0 where
  pub w : ℕ
  pub member : OnPlane at (Extreme at A) i j k w
  pub not_u : w ≢ u
  pub not_v : w ≢ v
  pub turns : pos 0 <ℤ left (cross (at i) (at j) (at k)) (at u) (at v) (at w)

module _ (at : ℕ → Vector) (ids : List ℕ) (d : HasDistinctPoints at (Members ids)) (i j k : ℕ) (q : List ℕ) (u v : ℕ)
    (way : Way at (Members ids) i j k q u v) where
  abbrev n : Vector
  n = cross (at i) (at j) (at k)

  pub has_u : OnPlane at (Extreme at (Members ids)) i j k u
  has_u = (way.face.members u).0 (follows_members u v q way.follows).0

  pub has_v : OnPlane at (Extreme at (Members ids)) i j k v
  has_v = (way.face.members v).0 (follows_members u v q way.follows).1

  -- the others lie to the left
  pub to_left : (w : ℕ) → OnPlane at (Extreme at (Members ids)) i j k w → w ≢ u → w ≢ v → pos 0 <ℤ left n (at u) (at v) (at w)
  to_left w h a b = way.face.round u v way.follows w ((way.face.members w).1 h) a b

  -- there is a third member
  pub third : Third at (Members ids) i j k u v
  third = record { w = f.0; member = on f.0 f.1; not_u = f.2; not_v = f.3; turns = to_left f.0 (on f.0 f.1) f.2 f.3 }
    where
      s : SpannedByExtremes at (Members ids) i j k
      s = planes_of_extremes at ids d i j k way.triple

      xy : s.u ≢ s.v
      xy e = s.area (subst (λ t. AreInLine (at s.u) (at t) (at s.w)) e (in_line-twice (at s.u) (at s.w)))

      yz : s.v ≢ s.w
      yz e = s.area (subst (λ t. AreInLine (at s.u) (at s.v) (at t)) e (in_line-last (at s.u) (at s.v)))

      xz : s.u ≢ s.w
      xz e = s.area (subst (λ t. AreInLine (at s.u) (at s.v) (at t)) e (in_line-flip (at s.u) (at s.v) (at s.u) (in_line-twice (at s.u) (at s.v))))

      on : (w : ℕ) → (w ≡ s.u) ⊎ (w ≡ s.v) ⊎ (w ≡ s.w) → OnPlane at (Extreme at (Members ids)) i j k w
      on w (inl e) = subst (OnPlane at (Extreme at (Members ids)) i j k) (sym e) (s.has_u, (s.same s.u).1 (vol-first (at s.u) (at s.v) (at s.w)))
      on w (inr (inl e)) = subst (OnPlane at (Extreme at (Members ids)) i j k) (sym e) (s.has_v, (s.same s.v).1 (vol-second (at s.u) (at s.v) (at s.w)))
      on w (inr (inr e)) = subst (OnPlane at (Extreme at (Members ids)) i j k) (sym e) (s.has_w, (s.same s.w).1 (vol-third (at s.u) (at s.v) (at s.w)))

      f : (w : ℕ) × ((w ≡ s.u) ⊎ (w ≡ s.v) ⊎ (w ≡ s.w)) × (w ≢ u) × (w ≢ v)
      f = other_of_three s.u s.v s.w u v xy yz xz

  -- the square of the normal
  pub square : pos 0 <ℤ dot n n
  square = square-positive n way.triple.area

  -- volumes over u, v and a point of the plane
  pub over : (l : ℕ) (y : Vector) → vol (at i) (at j) (at k) (at l) ≡ pos 0
      → dot n n *ℤ vol (at u) (at v) (at l) y ≡ left n (at u) (at v) (at l) *ℤ vol (at i) (at j) (at k) y
  over l y e = level_volume (at i) (at j) (at k) (at u) (at v) (at l) y has_u.1 has_v.1 e

  -- no member of the plane lies to the right
  pub not_right : (l : ℕ) → OnPlane at (Members ids) i j k l → pos 0 ≤ℤ left n (at u) (at v) (at l)
  not_right l h =
      let (ys, s) = listed_part (Members ids) (λ x. vol (at i) (at j) (at k) (at x) ≡ pos 0)
      (λ x. zero_or_not (vol (at i) (at j) (at k) (at x))) ids (listed_itself ids) in
      let m = combination_of_extremes at F ys s (λ x y fx fy e. d x y fx.0 fy.0 e) l h in
      by_lt_z (left n (at u) (at v) (at l)) (pos 0) (λ r. absurd (all_lower at (Extreme at F) (at l) (opposite c) m
      (lower m.a m.has_a r) (lower m.b m.has_b r) (lower m.c m.has_c r) (lower m.d m.has_d r))) (λ r. r)
    where
      F : ℕ → Type 0
      F = OnPlane at (Members ids) i j k

      c : Vector
      c = cross_product n (minus (at v) (at u))

      extreme : (x : ℕ) → OnPlane at (Extreme at (Members ids)) i j k x → pos 0 ≤ℤ left n (at u) (at v) (at x)
      extreme x e = dite (ℕ_discrete x u) (λ p. let line = in_line-flip (at u) (at v) (at u) (in_line-twice (at u) (at v)) in
          omega (arith, ints, ap (λ t. left n (at u) (at v) (at t)) p ∙ in_line-left n (at u) (at v) (at u) line)) (λ a. dite (ℕ_discrete x v)
          (λ p. omega (arith, ints, ap (λ t. left n (at u) (at v) (at t)) p ∙ in_line-left n (at u) (at v) (at v) (in_line-last (at u) (at v))))
          (λ b. positive_le _ (to_left x e a b)))

      -- along the opposite of c all extremes are lower than a member to the right
      lower : (x : ℕ) → Extreme at F x → left n (at u) (at v) (at l) <ℤ pos 0 → dot (opposite c) (at x) <ℤ dot (opposite c) (at l)
      lower x e r = rw (dot-opposite c (at x), dot-opposite c (at l)) (omega (
        arith,
        ints,
        left-linear n (at u) (at v) (at l),
        left-linear n (at u) (at v) (at x),
        r,
        extreme x ((extremes_of_face at ids i j k way.triple.supports x).0 e),
      ))
