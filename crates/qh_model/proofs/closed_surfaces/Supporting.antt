-- Supporting triangles that close up include every supporting plane and every extreme id: otherwise a point slightly beyond the middle of a missing plane would
-- be strictly below all of them.
use Rattle.qh_model.proofs.Common.{◌≡◌, ℕ, suc, arith, refl, sym, ap, subst, ◌∙◌, ◌⊎◌, inl, inr, List, [], ◌∷◌, ⊎_elim, ints, by_lt_z, ℤ, pos, ◌+ℤ◌, ◌-ℤ◌, ◌*ℤ◌}
use Rattle.qh_model.proofs.Common.{neg_ℤ, ◌≤ℤ◌, ◌<ℤ◌, Triple, IsClosedSurface, Others, cross, vol, AreInLine, In, Members, IsSupportingTriple, Vector, minus}
use Rattle.qh_model.proofs.Common.{dot, AreSupporting, IsCornerOf, IsAlong, Separator}
use Rattle.qh_model.specs.laws.ClosedFaceLaws.{ClosedMissNoPlane, ClosedMissNoExtreme}
use Rattle.qh_model.proofs.{algebra.Integers.mul_neg, algebra.Integers.mul_one, algebra.Signs.less_differ, closed_surfaces.Cancellation.none_below_and_beyond}
use Rattle.qh_model.proofs.algebra.Order.{mul-le, product_zero, mul-pos, mul-pos_neg, mul-nonneg_nonpos, zero_or_not, le_less}
use Rattle.qh_model.proofs.{algebra.Ring.ring, Members.each_more, Members.each_of_three, surfaces.PerturbedInwards.bound, polygons.PlaneTurns.level_parallel}
use Rattle.qh_model.proofs.algebra.VectorIdentities.{vec, put, dotE, oppositeE, opposite, dot-opposite, dot_comm, in_line-vol, vol-first, vol-second, vol-third}
use Rattle.qh_model.proofs.closed_surfaces.Beyond.{scaled, beyond, vol-beyond, dot-past}
use Rattle.qh_model.proofs.extremes.Directions.{positive_along, dot_along, along_or_opposite, square-positive, from_plane}
use Rattle.qh_model.proofs.extremes.ExtremeIds.{separated}

-- some element of the list satisfies P, or all satisfy Q
one_or_all : {X : Type 0} (P Q : X → Type 0) (xs : List X) → ((x : X) → In x xs → P x ⊎ Q x) → ((x : X) × In x xs × P x) ⊎ ((x : X) → In x xs → Q x)
one_or_all P Q [] f = inr (λ x i. absurd i)
one_or_all P Q (x ∷ xs) f =
    ⊎_elim (λ p. inl (x, inl refl, p)) (λ q. ⊎_elim (λ r. inl (r.0, inr r.1, r.2)) (λ r. inr (each_more Q x xs q r))
    (one_or_all P Q xs (λ y i. f y (inr i)))) (f x (inl refl))

-- a number above all numbers of a list
pub ceiling : {X : Type 0} (g : X → ℤ) (xs : List X) → (c : ℕ) × ((x : X) → In x xs → g x <ℤ pos c)
ceiling g xs = let b = bound g xs in (b.0, λ x i. (b.1 x i).0)

-- ---- a plane of the set and a triangle
module _ (at : ℕ → Vector) (A : ℕ → Type 0) (i j k : ℕ) (plane : IsSupportingTriple at A i j k) where
  abbrev n : Vector
  n = cross (at i) (at j) (at k)

  -- the height of a point above a triangle
  abbrev rise : Triple → Vector → ℤ
  rise t p = vol (at t.i) (at t.j) (at t.k) p

  -- the sum of the volumes of a triangle with the three
  abbrev sink : Triple → ℤ
  sink t = rise t (at i) +ℤ rise t (at j) +ℤ rise t (at k)

  abbrev tilt : Triple → ℤ
  tilt t = dot (cross (at t.i) (at t.j) (at t.k)) n

  -- the three are not all in its plane, or its outside is the opposite one
  abbrev IsOther : Triple → Type 0
  IsOther t = (sink t <ℤ pos 0) ⊎ ((sink t ≡ pos 0) × (tilt t <ℤ pos 0))

  -- the triangle spans the plane, with the same side outside
  abbrev Spans : Triple → Type 0
  Spans t = IsAlong (cross (at t.i) (at t.j) (at t.k)) n × (rise t (at i) ≡ pos 0)

  spans_or_other : (t : Triple) → IsSupportingTriple at A t.i t.j t.k → Spans t ⊎ IsOther t
  spans_or_other t s =
      by_lt_z (sink t) (pos 0) (λ h. inr (inl h)) (λ h. level (zeros _ _ _ (s.supports i plane.has_i) (s.supports j plane.has_j) (s.supports k plane.has_k) h))
    where
      m : Vector
      m = cross (at t.i) (at t.j) (at t.k)

      zeros : (x y z : ℤ) → x ≤ℤ pos 0 → y ≤ℤ pos 0 → z ≤ℤ pos 0 → pos 0 ≤ℤ (x +ℤ y +ℤ z) → (x ≡ pos 0) × (y ≡ pos 0) × (z ≡ pos 0) × (x +ℤ y +ℤ z ≡ pos 0)
      zeros x y z p q r h = (omega (arith, ints), omega (arith, ints), omega (arith, ints), omega (arith, ints))

      square : dot (opposite n) (opposite n) ≡ dot n n
      square = ring (put n []) (dotE (oppositeE (vec 0)) (oppositeE (vec 0))) (dotE (vec 0) (vec 0)) refl

      -- the case that its outside is the opposite one
      away : IsAlong m (opposite n) → dot m n <ℤ pos 0
      away h =
          let ahead = positive_along h.t h.s (dot (opposite n) (opposite n)) (dot m (opposite n)) h.some_t h.some_s
          (sym (dot_along m (opposite n) h (opposite n))) (subst (λ x. pos 0 <ℤ x) (sym square) (square-positive n plane.area)) in
          omega (arith, ints, dot_comm m (opposite n) ∙ dot-opposite n m ∙ ap neg_ℤ (dot_comm n m), ahead)

      level : (rise t (at i) ≡ pos 0) × (rise t (at j) ≡ pos 0) × (rise t (at k) ≡ pos 0) × (sink t ≡ pos 0) → Spans t ⊎ IsOther t
      level z =
          let parallel = level_parallel (at t.i) (at t.j) (at t.k) (at i) (at j) (at k) z.0 z.1 z.2 in
          ⊎_elim (λ h. inl (h, z.0)) (λ h. inr (inr (z.3, away h))) (along_or_opposite m n s.area plane.area parallel)

  -- a point beyond the plane that is below each triangle with another plane
  none_other : (ts : List Triple) → IsClosedSurface at ts → AreSupporting at A ts → ((t : Triple) → In t ts → IsOther t) → ⊥
  none_other ts closed supporting other = go (ceiling tilt ts)
    where
      go : (b : ℕ) × ((t : Triple) → In t ts → tilt t <ℤ pos b) → ⊥
      go (b, limit) = none_below_and_beyond up ts (record { some = closed.some; area = area; closed = closed.closed }) n p past below
        where
          c : ℤ
          c = pos (suc b)

          m : ℤ
          m = pos 3 *ℤ c

          up : ℕ → Vector
          up l = scaled m (at l)

          p : Vector
          p = beyond c (at i) (at j) (at k) n

          m_pos : pos 0 <ℤ m
          m_pos = mul-pos (pos 3) c (omega (arith, ints)) (omega (arith, ints))

          low : (x g : ℤ) → (x <ℤ pos 0) ⊎ ((x ≡ pos 0) × (g <ℤ pos 0)) → g <ℤ pos b → (c *ℤ x +ℤ g) <ℤ pos 0
          low x g (inl h) k =
              step (c *ℤ x) (c *ℤ neg_ℤ (pos 1)) g (mul-le c x (neg_ℤ (pos 1)) (omega (arith, ints)) (omega (arith, ints)))
              (mul_neg c (pos 1) ∙ ap neg_ℤ (mul_one c)) k
            where
              step : (y w g : ℤ) → y ≤ℤ w → w ≡ neg_ℤ c → g <ℤ pos b → (y +ℤ g) <ℤ pos 0
              step y w g h e k = omega (arith, ints)
          low x g (inr (e, h)) k = step (c *ℤ x) (product_zero c x e)
            where
              step : (y : ℤ) → y ≡ pos 0 → (y +ℤ g) <ℤ pos 0
              step y e = omega (arith, ints)

          below : (t : Triple) → In t ts → vol (up t.i) (up t.j) (up t.k) p <ℤ pos 0
          below t r =
              subst (λ x. x <ℤ pos 0) (sym (vol-beyond c (at t.i) (at t.j) (at t.k) (at i) (at j) (at k) n))
              (mul-pos_neg (m *ℤ m) (c *ℤ sink t +ℤ tilt t) (mul-pos m m m_pos m_pos) (low (sink t) (tilt t) (other t r) (limit t r)))

          area : (t : Triple) → In t ts → ¬ (AreInLine (up t.i) (up t.j) (up t.k))
          area t r e = less_differ (vol (up t.i) (up t.j) (up t.k) p) (pos 0) (below t r) (in_line-vol (up t.i) (up t.j) (up t.k) p e)

          further : (l : ℕ) → A l → dot n (up l) <ℤ dot n p
          further l h =
              order _ _ _ _ (dot-past c n (at i) (at j) (at k) (at l)) (square-positive n plane.area) (mul-nonneg_nonpos c _ (omega (arith, ints))
              (let h = height (at i) (vol-first (at i) (at j) (at k)) in
              omega (arith, ints, height (at j) (vol-second (at i) (at j) (at k)), height (at k) (vol-third (at i) (at j) (at k)))))
            where
              order : (x y s z : ℤ) → x ≡ y +ℤ s -ℤ z → pos 0 <ℤ s → z ≤ℤ pos 0 → y <ℤ x
              order x y s z e h k = omega (arith, ints)

              height : (q : Vector) → vol (at i) (at j) (at k) q ≡ pos 0 → dot n (minus (at l) q) ≤ℤ pos 0
              height q e = subst (λ x. x ≤ℤ pos 0) (sym (from_plane (at i) (at j) (at k) q (at l) e)) (plane.supports l h)

          past : (l : ℕ) → IsCornerOf ts l → dot n (up l) <ℤ dot n p
          past l (t, r, h) = let s = supporting t r in further l (each_of_three A t.i t.j t.k s.has_i s.has_j s.has_k l h)

-- proof of the law `ClosedMissNoPlane`
pub closed_miss_no_plane : ClosedMissNoPlane
closed_miss_no_plane at ids ts closed supporting i j k plane =
    ⊎_elim (λ r. record { t = r.0; there = r.1; along = r.2.0; level = r.2.1 })
    (λ f. absurd (none_other at (Members ids) i j k plane ts closed supporting f))
    (one_or_all (Spans at (Members ids) i j k plane) (IsOther at (Members ids) i j k plane) ts
    (λ t r. spans_or_other at (Members ids) i j k plane t (supporting t r)))

-- ---- extreme ids
-- proof of the law `ClosedMissNoExtreme`
pub closed_miss_no_extreme : ClosedMissNoExtreme
closed_miss_no_extreme at ids ts closed supporting e extreme =
    ⊎_elim (λ r. (r.0, r.1, r.2)) (λ f. absurd (none f (separated at ids e extreme))) (one_or_all On Below ts (λ t r.
    ⊎_elim (λ z. inl z) (λ z. inr (le_less (height t) (pos 0) ((supporting t r).supports e extreme.0) z)) (zero_or_not (height t))))
  where
    height : Triple → ℤ
    height t = vol (at t.i) (at t.j) (at t.k) (at e)

    On : Triple → Type 0
    On t = height t ≡ pos 0

    Below : Triple → Type 0
    Below t = height t <ℤ pos 0

    -- the ids of the set except e
    Rest : ℕ → Type 0
    Rest = Others (Members ids) e

    none : ((t : Triple) → In t ts → Below t) → Separator at Rest (at e) → ⊥
    none below s = none_below_and_beyond at ts closed s.w (at e) past below
      where
        past : (l : ℕ) → IsCornerOf ts l → dot s.w (at l) <ℤ dot s.w (at e)
        past l (t, r, h) = s.past l (each_of_three Rest t.i t.j t.k (other t.i own.has_i (vol-first (at t.i) (at t.j) (at t.k)))
            (other t.j own.has_j (vol-second (at t.i) (at t.j) (at t.k))) (other t.k own.has_k (vol-third (at t.i) (at t.j) (at t.k))) l h)
          where
            own : IsSupportingTriple at (Members ids) t.i t.j t.k
            own = supporting t r

            -- a corner is another id than e, since e is below the triangle
            other : (c : ℕ) → Members ids c → vol (at t.i) (at t.j) (at t.k) (at c) ≡ pos 0 → Rest c
            other c m z = (m, λ d. less_differ (height t) (pos 0) (below t r) (subst (λ a. vol (at t.i) (at t.j) (at t.k) (at a) ≡ pos 0) d z))
