-- Facets with neighbours across their sides, and the points of their corners: no corner is above a facet.
use Rattle.qh_model.proofs.Common.{HasDistinctFacets, HasTwin, In, IsCorner, IsInner, IsStrict, IsWhole, Side, Surface, Weighted, [], above, arith, by_lt_z}
use Rattle.qh_model.proofs.Common.{end, far, first, inl, inr, ints, neg_ℤ, plane_of, pos, refl, rest, rise, second, subst, sym, third, weighted_dot, ℕ, ℤ}
use Rattle.qh_model.proofs.{Common.⊎_elim, Common.◌+ℤ◌, Common.◌<ℤ◌, Common.◌∙◌, Common.◌≡◌, Common.◌≢◌, Common.◌≤ℤ◌, Common.◌⊎◌, algebra.Order.negative_le}
use Rattle.qh_model.proofs.algebra.{Ring.Expr, Ring.ring, Ring.Expr.add, Signs.equal_le, Signs.equal_negative, Signs.equal_nonpos, Signs.equal_positive}
use Rattle.qh_model.proofs.algebra.Signs.{less_differ, less_one_way, opposite_negative, opposite_nonneg, opposite_positive, sum_nonpos, sum_parts, sum_zero}
use Rattle.qh_model.proofs.surfaces.Determinants.{QE, above-first, above-flip, above-second, above-third, above-turn, dot4E, put4, quad}
use Rattle.qh_model.specs.contract.Surface.{start}

-- a fact about the corners one by one holds for all
pub of_corners : (m : Surface) (f : ℕ) (P : ℕ → Type 0) → P (m.i f) → P (m.j f) → P (m.k f) → (l : ℕ) → IsCorner m f l → P l
of_corners = grind arith

module _ (m : Surface) where
  -- the start of a side is a corner
  pub corner_start : (f : ℕ) (s : Side) → IsCorner m f (start m f s)
  corner_start = grind arith

  -- the end of a side is a corner
  pub corner_end : (f : ℕ) (s : Side) → IsCorner m f (end m f s)
  corner_end = grind arith

  -- the third id of a side is a corner
  pub corner_rest : (f : ℕ) (s : Side) → IsCorner m f (rest m f s)
  corner_rest = grind arith

  -- a corner is one of the three of a side
  pub corner_cases : (f : ℕ) (s : Side) (l : ℕ) → IsCorner m f l → (l ≡ start m f s) ⊎ (l ≡ end m f s) ⊎ (l ≡ rest m f s)
  corner_cases = grind arith

  -- decides whether an id is a corner
  pub corner_test : (f l : ℕ) → IsCorner m f l ⊎ (¬ (IsCorner m f l))
  corner_test = grind arith

module _ (m : Surface) (at : ℕ → Weighted) where
  -- ---- a facet and its neighbour, in terms of the side between them
  -- the height of a point above the facet
  abbrev pub side_rise : ℕ → Side → Weighted → ℤ
  side_rise f s y = above (at (start m f s)) (at (end m f s)) (at (rest m f s)) y

  -- the height of a point above the reversed neighbour
  abbrev pub far_rise : ℕ → Side → Weighted → ℤ
  far_rise f s y = above (at (start m f s)) (at (end m f s)) (at (far m f s)) y

  -- the facet is the same from any side
  pub rise_side : (f : ℕ) (s : Side) (y : Weighted) → rise m at f y ≡ side_rise f s y
  rise_side = grind (arith, above-turn)

  -- the facet sees a point
  pub side_seen : (f : ℕ) (s : Side) (y : Weighted) → pos 0 <ℤ rise m at f y → pos 0 <ℤ side_rise f s y
  side_seen f s y = equal_positive _ _ (rise_side f s y)

  -- the facet does not see a point
  pub side_blind : (f : ℕ) (s : Side) (y : Weighted) → rise m at f y ≤ℤ pos 0 → side_rise f s y ≤ℤ pos 0
  side_blind f s y = equal_nonpos _ _ (rise_side f s y)

  -- a point strictly below the facet
  pub side_below : (f : ℕ) (s : Side) (y : Weighted) → rise m at f y <ℤ pos 0 → side_rise f s y <ℤ pos 0
  side_below f s y = equal_negative _ _ (rise_side f s y)

  module _ (w : IsWhole m) (f : ℕ) (i : In f m.live) (s : Side) (y : Weighted) where
    -- the neighbour in terms of the side's own ends
    pub rise_over : rise m at (m.over f s) y ≡ above (at (end m f s)) (at (start m f s)) (at (far m f s)) y
    rise_over = grind (arith, rise_side)

    -- the reversed neighbour
    pub over_flip : rise m at (m.over f s) y ≡ neg_ℤ (far_rise f s y)
    over_flip = rise_over ∙ above-flip (at (start m f s)) (at (end m f s)) (at (far m f s)) y

    -- the neighbour sees a point
    pub far_seen : pos 0 <ℤ rise m at (m.over f s) y → far_rise f s y <ℤ pos 0
    far_seen = opposite_negative _ _ over_flip

    -- the neighbour does not see a point
    pub far_blind : rise m at (m.over f s) y ≤ℤ pos 0 → pos 0 ≤ℤ far_rise f s y
    far_blind = opposite_nonneg _ _ over_flip

    -- a point strictly below the neighbour
    pub far_below : rise m at (m.over f s) y <ℤ pos 0 → pos 0 <ℤ far_rise f s y
    far_below = opposite_positive _ _ over_flip

-- ---- the corners of a facet are different if a point lies strictly below it
module _ (m : Surface) (at : ℕ → Weighted) (c : Weighted) (h : IsInner m at c) (f : ℕ) (i : In f m.live) where
  -- the ends of a side differ
  pub ends_differ : (s : Side) → start m f s ≢ end m f s
  ends_differ s e =
      let twice = above-flip (at (end m f s)) (at (end m f s)) (at (rest m f s)) c in let low = side_below m at f s c (h f i) in
      let same : side_rise m at f s c ≡ above (at (end m f s)) (at (end m f s)) (at (rest m f s)) c =
      (λ k. above (at (e k)) (at (end m f s)) (at (rest m f s)) c) in
      omega (arith, ints, twice, low, same)

  -- the third id differs from both ends
  pub rest_differs : (s : Side) → (rest m f s ≢ start m f s) × (rest m f s ≢ end m f s)
  rest_differs first = (ends_differ third, λ e. ends_differ second (sym e))
  rest_differs second = (ends_differ first, λ e. ends_differ third (sym e))
  rest_differs third = (ends_differ second, λ e. ends_differ first (sym e))

-- the far corner of the neighbour is no corner of the facet
pub far_apart : (m : Surface) (at : ℕ → Weighted) (c : Weighted) → IsWhole m → IsInner m at c
    → (f : ℕ) → In f m.live → (s : Side) → ¬ (IsCorner m f (far m f s))
far_apart m at c w h f i s k = apart (corner_cases m f s (far m f s) k)
  where
    t : HasTwin m f s
    t = w f i s

    d : (far m f s ≢ start m (m.over f s) (m.back f s)) × (far m f s ≢ end m (m.over f s) (m.back f s))
    d = rest_differs m at c h (m.over f s) t.live (m.back f s)

    apart : (far m f s ≡ start m f s) ⊎ (far m f s ≡ end m f s) ⊎ (far m f s ≡ rest m f s) → ⊥
    apart (inl e) = d.1 (e ∙ sym t.end_is)
    apart (inr (inl e)) = d.0 (e ∙ sym t.start_is)
    apart (inr (inr e)) =
        less_one_way (side_rise m at f s c) (pos 0) (side_below m at f s c (h f i))
        (subst (λ l. pos 0 <ℤ above (at (start m f s)) (at (end m f s)) (at l) c) e (far_below m at w f i s c (h (m.over f s) t.live)))

-- the corners of a facet lie on it
pub rise_own : (m : Surface) (at : ℕ → Weighted) (f l : ℕ) → IsCorner m f l → rise m at f (at l) ≡ pos 0
rise_own = grind (arith, of_corners, above-first, above-second, above-third)

-- the value of the plane is the height of a point above it
pub plane-is : (a b c y : Weighted) → weighted_dot (plane_of a b c) y ≡ above a b c y
unfolding above
plane-is a b c y = refl

-- ---- sums of three points
-- the sum
pub sum4 : Weighted → Weighted → Weighted → Weighted
sum4 p q r = record { w = p.w +ℤ q.w +ℤ r.w; x = p.x +ℤ q.x +ℤ r.x; y = p.y +ℤ q.y +ℤ r.y; z = p.z +ℤ q.z +ℤ r.z }

-- the height of the sum above a plane
pub above-sum : (a b c p q r : Weighted) → above a b c (sum4 p q r) ≡ above a b c p +ℤ above a b c q +ℤ above a b c r
unfolding above sum4
above-sum a b c p q r = dot4-sum (plane_of a b c)
  where
    dot4-sum : (n : Weighted) → weighted_dot n (sum4 p q r) ≡ weighted_dot n p +ℤ weighted_dot n q +ℤ weighted_dot n r
    dot4-sum n =
        let sum : (QE → Expr) → Expr = λ part. add (add (part (quad 1)) (part (quad 2))) (part (quad 3)) in
        let total : QE = record { w = sum (λ e. e.w); x = sum (λ e. e.x); y = sum (λ e. e.y); z = sum (λ e. e.z) } in
        ring (put4 n (put4 p (put4 q (put4 r [])))) (dot4E (quad 0) total) (sum (dot4E (quad 0))) refl

module _ (a b c p q r : Weighted) where
  -- a sum of points not above a plane is not above it
  pub sum_blind : above a b c p ≤ℤ pos 0 → above a b c q ≤ℤ pos 0 → above a b c r ≤ℤ pos 0 → above a b c (sum4 p q r) ≤ℤ pos 0
  sum_blind = sum_nonpos _ _ _ _ (above-sum a b c p q r)

  -- a sum of points on it is on it
  pub sum_level : above a b c p ≡ pos 0 → above a b c q ≡ pos 0 → above a b c r ≡ pos 0 → above a b c (sum4 p q r) ≡ pos 0
  sum_level = sum_zero _ _ _ _ (above-sum a b c p q r)

  -- points not above a plane whose sum is not below it are on it
  pub level_parts : above a b c p ≤ℤ pos 0 → above a b c q ≤ℤ pos 0 → above a b c r ≤ℤ pos 0 → pos 0 ≤ℤ above a b c (sum4 p q r)
      → (above a b c p ≡ pos 0) × (above a b c q ≡ pos 0) × (above a b c r ≡ pos 0)
  level_parts = sum_parts _ _ _ _ (above-sum a b c p q r)

-- the middle of a facet (three times its weight)
abbrev pub middle : Surface → (ℕ → Weighted) → ℕ → Weighted
middle m at f = sum4 (at (m.i f)) (at (m.j f)) (at (m.k f))

-- a facet's middle lies on it
pub middle_on : (m : Surface) (at : ℕ → Weighted) (f : ℕ) → rise m at f (middle m at f) ≡ pos 0
middle_on = grind (arith, sum_level, above-first, above-second, above-third)

-- ---- the case that all is strict
module _ (m : Surface) (at : ℕ → Weighted) (h : IsStrict m at) (f g : ℕ) (i : In f m.live) (j : In g m.live) where
  -- no corner is above a facet
  pub weak : (l : ℕ) → IsCorner m g l → rise m at f (at l) ≤ℤ pos 0
  weak l c = ⊎_elim (λ k. equal_le _ _ (rise_own m at f l k)) (λ k. negative_le _ (h f g i j l c k)) (corner_test m f l)

  -- a corner on a facet is a corner of this facet
  corner_on : (l : ℕ) → IsCorner m g l → rise m at f (at l) ≡ pos 0 → IsCorner m f l
  corner_on l c e = ⊎_elim (λ k. k) (λ k. absurd (less_differ _ _ (h f g i j l c k) e)) (corner_test m f l)

  -- no facet's middle is above a facet
  pub middle_weak : rise m at f (middle m at g) ≤ℤ pos 0
  middle_weak = sum_blind _ _ _ _ _ _ (weak (m.i g) (inl refl)) (weak (m.j g) (inr (inl refl))) (weak (m.k g) (inr (inr refl)))

  -- a facet's middle is strictly below each other facet
  pub middle_below : HasDistinctFacets m → g ≢ f → rise m at f (middle m at g) <ℤ pos 0
  middle_below d n = by_lt_z (rise m at f (middle m at g)) (pos 0) (λ q. q) (λ q. absurd (n (d g f j i (λ l c. corner_on l c (level q l c)))))
    where
      level : pos 0 ≤ℤ rise m at f (middle m at g) → (l : ℕ) → IsCorner m g l → rise m at f (at l) ≡ pos 0
      level q =
          let z = level_parts _ _ _ _ _ _ (weak (m.i g) (inl refl)) (weak (m.j g) (inr (inl refl))) (weak (m.k g) (inr (inr refl))) q in
          of_corners m g (λ l. rise m at f (at l) ≡ pos 0) z.0 z.1 z.2

-- each side bends
pub bends : (m : Surface) (at : ℕ → Weighted) (real : ℕ → Weighted) (c : Weighted) → IsWhole m → IsInner m real c → IsStrict m at
    → (f : ℕ) → In f m.live → (s : Side) → side_rise m at f s (at (far m f s)) <ℤ pos 0
bends m at real c w n h f i s =
    side_below m at f s (at (far m f s))
    (h f (m.over f s) i (w f i s).live (far m f s) (corner_rest m (m.over f s) (m.back f s)) (far_apart m real c w n f i s))
