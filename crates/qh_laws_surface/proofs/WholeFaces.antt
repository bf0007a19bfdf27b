-- The pieces reach every spot of a face and no other spot, and no spot lies strictly inside two of them.
use Rattle.qh_check.specs.contract.Surfaces.{IsFaceSurface}
use Rattle.qh_laws_surface.proofs.{ConvexLists.AllTurn, Covered.covers_flat, Covered.covers_height, Covered.covers_other, Covered.flat_along}
use Rattle.qh_laws_surface.proofs.{Covered.flat_height, Covered.height_flat, Covered.one_covers, FaceSpots.IsLeft, FaceSpots.IsNotRight, FaceSpots.covers_face}
use Rattle.qh_laws_surface.proofs.FaceSpots.{inside_side, left_of, moved, moved_left, none_right, not_beyond, of_left, of_right, off_lines, right_of, turns}
use Rattle.qh_laws_surface.proofs.NearSpots.{Near, form_level, form_some, near, near_one}
use Rattle.qh_laws_surface.proofs.PlanePieces.{OverFace, PieceOf, follows_apart, lies_member, lies_turns, normal, of_face, on, piece}
use Rattle.qh_laws_surface.proofs.{PlaneSpots.height_form, PlaneSpots.height_of, PlaneSpots.turn_form, SharedCorners.same_face, SpotFans.InTriangle}
use Rattle.qh_laws_surface.proofs.{SpotFans.all_left, SpotFans.in_triangle, SpotHeights.not_above_plane, SpotHeights.not_right_along, SpotTurns.spot_turn-back}
use Rattle.qh_laws_surface.specs.contract.{Covering.Spot, Covering.covers, Covering.reaches, Covering.spot_height, Covering.spot_turn, Measures.lies_in}
use Rattle.qh_model.proofs.Common.{Bool, Decides-int_eq, Follows, In, List, Members, Vector, [], and_parts, ap, arith, by_lt_z, cases_Bool, count_by, cross}
use Rattle.qh_model.proofs.Common.{dot, false, inl, inr, int_eq, ints, minus, origin, pos, refl, steps_round, subst, sym, true, vol, ℕ, ◌<◌, ◌∙◌, ◌∷◌, ◌≡◌}
use Rattle.qh_model.proofs.{Common.◌≤ℤ◌, Common.◌≤◌, Decisions.Decided, Decisions.same_vector, algebra.Order.product_zero, algebra.VectorIdentities.vol-dot}
use Rattle.qh_model.proofs.{closed_surfaces.Sums.count, closed_surfaces.Sums.count-is, extremes.Directions.along_back, polygons.Neighbours.follows_members}
use Rattle.qh_model.specs.headline.Predicates.{left}
use Rattle.qh_polygon.proofs.LinesAndPlanes.{between_eq}
use Rattle.std.proofs.lemmas.Bool.{true_from_ne_false}

-- ---- counts
-- a test that some member passes has a count of at least one
counted : {X : Type 0} (p : X → Bool) (xs : List X) → 0 < count p xs → (x : X) × In x xs × (p x ≡ true)
counted p [] h = absurd (omega arith)
counted p (x ∷ xs) h = elim (cases_Bool (p x)) [
  | inl t ↦ (x, inl refl, t)
  | inr f ↦ (let k = rw f at h in let r = counted p xs (omega (arith, k)) in (r.0, inr r.1, r.2))
]

-- if each member that passes one test passes another, the count of the other is at least as great
count_more : {X : Type 0} (p r : X → Bool) (xs : List X) → ((x : X) → In x xs → p x ≡ true → r x ≡ true) → count p xs ≤ count r xs
count_more p r [] h = omega arith
count_more p r (x ∷ xs) h = let rest = count_more p r xs (λ y m. h y (inr m)) in elim (cases_Bool (p x)) [
  | inl t ↦ rw (t, h x (inl refl) t) (omega (arith, rest))
  | inr f ↦ rw f (omega (arith, rest))
]

-- a form of heights that is 0 everywhere
form_zero : (at : ℕ → Vector) (i j k x y z : ℕ) → height_form at i j k x y z ≡ origin
    → (vol (at x) (at y) (at z) (at i) ≡ pos 0) × ((vol (at x) (at y) (at z) (at j) ≡ pos 0) × (vol (at x) (at y) (at z) (at k) ≡ pos 0))
unfolding height_form
form_zero at i j k x y z e = (vi, (other j (ap (λ v. v.y) e), other k (ap (λ v. v.z) e)))
  where
    m : Vector
    m = cross (at x) (at y) (at z)

    vi : vol (at x) (at y) (at z) (at i) ≡ pos 0
    vi = vol-dot (at x) (at y) (at z) (at i) ∙ ap (λ v. v.x) e

    other : (l : ℕ) → dot m (minus (at l) (at i)) ≡ pos 0 → vol (at x) (at y) (at z) (at l) ≡ pos 0
    other l h = omega (arith, ints, vol-dot (at x) (at y) (at z) (at l), vol-dot (at x) (at y) (at z) (at i), vi, h, between_eq m (at x) (at i) (at l))

module _ {at : ℕ → Vector} {ids : List ℕ} {qs : List (List ℕ)} {i j k : ℕ} {r : List ℕ} (c : OverFace at ids qs i j k (i ∷ j ∷ k ∷ r)) where
  abbrev F : List ℕ
  F = i ∷ j ∷ k ∷ r

  abbrev n : Vector
  n = cross (at i) (at j) (at k)

  abbrev NearTo : (s : Spot) → spot_height at i j k s ≡ pos 0 → List Vector → Type 0
  NearTo s level extra = Near at i j k r (turns c) s level extra

  -- ---- a piece in the plane
  module _ (q : List ℕ) (m : In q qs) (lies : lies_in at i j k q ≡ true) where
    p : PieceOf at (Members ids) q
    p = piece c q m

    abbrev list : List ℕ
    list = p.i ∷ p.j ∷ p.k ∷ p.rest

    list_turns : AllTurn n at list
    list_turns = subst (AllTurn n at) p.is (lies_turns c q m lies)

    in_F : (l : ℕ) → In l list → In l F
    in_F l o = lies_member c q m lies l (subst (In l) (sym p.is) o)

    -- the piece reaches a spot of the plane that is to the right of none of its sides
    reaches_flat : (s : Spot) → spot_height at i j k s ≡ pos 0 → IsNotRight n at s q → reaches at s q ≡ true
    reaches_flat s level side = subst (λ x. reaches at s x ≡ true) (sym p.is) (rw (
      (Decides-int_eq (spot_height at p.i p.j p.k s) (pos 0)).1 (flat_height c lies p s level),
      of_right (normal p) at s list (λ u v g. not_right_along n (normal p) at u v s (flat_along c lies p) (side u v (subst (Follows u v) (sym p.is) g))),
    ) refl)

    -- ---- a spot that the piece reaches
    module _ (s : Spot) (reach : reaches at s q ≡ true) where
      two : (int_eq (spot_height at p.i p.j p.k s) (pos 0) ≡ true) × (none_right (normal p) at s (steps_round list) ≡ true)
      two = and_parts (int_eq (spot_height at p.i p.j p.k s) (pos 0)) (none_right (normal p) at s (steps_round list))
          (subst (λ x. reaches at s x ≡ true) p.is reach)

      reach_level : spot_height at i j k s ≡ pos 0
      reach_level = height_flat c lies p s ((Decides-int_eq (spot_height at p.i p.j p.k s) (pos 0)).0 two.0)

      closed : IsNotRight n at s list
      closed u v g = not_right_along (normal p) n at u v s (along_back n (normal p) (flat_along c lies p)) (right_of (normal p) at s list two.1 u v g)

      -- the face reaches it, too
      pub face_reaches : reaches at s F ≡ true
      face_reaches = rw (
        (Decides-int_eq (spot_height at i j k s) (pos 0)).1 reach_level,
        of_right n at s F (not_beyond c p.i p.j p.k p.rest list_turns in_F s reach_level closed),
      ) refl

    -- ---- a spot of the plane that the piece covers
    module _ (s : Spot) (level : spot_height at i j k s ≡ pos 0) (cover : covers at s q ≡ true) where
      -- a spot near it lies inside the piece, too
      near_left : {extra : List Vector} (y : NearTo s level extra) → all_left n at y.spot (steps_round list) ≡ true
      near_left y = of_left n at y.spot list (λ u v g. let o = follows_members u v list g in y.keeps u v (in_F u o.0) (in_F v o.1)
          (left_of n at s q (sym (covers_flat c s level q m lies) ∙ cover) u v (subst (Follows u v) (sym p.is) g)))

      near_covers : {extra : List Vector} (y : NearTo s level extra) → covers at y.spot q ≡ true
      near_covers y = covers_flat c y.spot y.level q m lies ∙ subst (λ x. all_left n at y.spot (steps_round x) ≡ true) (sym p.is) (near_left y)

      near_inside : {extra : List Vector} (y : NearTo s level extra) → IsLeft n at y.spot F
      near_inside y = inside_side c p.i p.j p.k p.rest list_turns in_F y.spot y.off (near_left y)

      near_triangle : {extra : List Vector} (y : NearTo s level extra) → InTriangle n at y.spot list
      near_triangle y = in_triangle n at y.spot (λ l. In l F) y.off p.i p.j p.k p.rest in_F list_turns (near_left y)

      -- the spot lies strictly inside the face
      pub inside_face : covers at s F ≡ true
      inside_face = covers_face c s level (λ x y g. by_lt_z (pos 0) (spot_turn n at x y s) (λ h. h) (λ h. absurd (beyond x y g h)))
        where
          beyond : (x y : ℕ) → Follows x y F → spot_turn n at x y s ≤ℤ pos 0 → ⊥
          beyond x y g h = omega (arith, ints, spot_turn-back n at x y z.spot, z.more y x (inl refl), near_inside z x y g)
            where
              z : NearTo s level (turn_form at i j k y x ∷ [])
              z = near_one at i j k r (turns c) s level (turn_form at i j k y x) (form_some at i j k r (turns c) y x (follows_members x y F g).1
                  (follows_members x y F g).0 (λ e. follows_apart c x y g (sym e)))
                  (form_level at i j k r (turns c) s level y x (omega (arith, ints, h, spot_turn-back n at x y s)))

      -- another piece that covers the spot lies in the plane
      one_plane : (b : List ℕ) → In b qs → covers at s b ≡ true → lies_in at i j k b ≡ true
      one_plane b o t = true_from_ne_false (lies_in at i j k b) (by (piece c b o))
        where
          by : PieceOf at (Members ids) b → lies_in at i j k b ≡ false → ⊥
          by g e = on_form (same_vector h origin)
            where
              h : Vector
              h = height_form at i j k g.i g.j g.k

              -- a plane that holds the whole face is that of the face
              flat : vol (at g.i) (at g.j) (at g.k) (at i) ≡ pos 0 → vol (at g.i) (at g.j) (at g.k) (at j) ≡ pos 0
                  → vol (at g.i) (at g.j) (at g.k) (at k) ≡ pos 0 → ⊥
              flat hi hj hk =
                  let l = of_face c g (sym (same_face at ids c.solid g.plane c.plane hi hj hk g.polygon c.polygon)) in cc

              on_form : Decided (h ≡ origin) → ⊥
              on_form (inl z) = let v = form_zero at i j k g.i g.j g.k z in flat v.0 v.1.0 v.1.1
              on_form (inr some) = omega (
                arith,
                ints,
                z.higher g.i g.j g.k (inl refl),
                not_above_plane at z.spot i j k c.plane.area z.level tri.a tri.v tri.w
                    (on c tri.a (in_F tri.a tri.has_a)) (on c tri.v (in_F tri.v tri.has_v)) (on c tri.w (in_F tri.w tri.has_w)) g.i g.j g.k tri.av tri.vw tri.wa
                    (under tri.a tri.has_a) (under tri.v tri.has_v) (under tri.w tri.has_w) tri.turns,
              )
                where
                  under : (l : ℕ) → In l list → vol (at g.i) (at g.j) (at g.k) (at l) ≤ℤ pos 0
                  under l o = g.plane.supports l ((c.polygon.members l).0 (in_F l o)).0.0

                  z : NearTo s level (h ∷ [])
                  z = near_one at i j k r (turns c) s level h some (let w = product_zero (left n (at i) (at j) (at k)) (spot_height at g.i g.j g.k s)
                      (covers_height g s t) in omega (arith, ints, height_of at i j k s level g.i g.j g.k, w))

                  tri : InTriangle n at z.spot list
                  tri = near_triangle z

  -- ---- of a surface
  module _ (surface : IsFaceSurface at (Members ids) qs) where
    -- a spot strictly inside the face, off all lines, is covered once
    near_once : {s : Spot} {level : spot_height at i j k s ≡ pos 0} {extra : List Vector} (y : NearTo s level extra)
        → IsLeft n at y.spot F → count_by (covers at y.spot) qs ≡ 1
    near_once y h = one_covers c y.spot (off_lines c y.spot y.off) (covers_face c y.spot y.level h) surface

    -- the piece that covers the near spot reaches the first
    near_found : {s : Spot} {level : spot_height at i j k s ≡ pos 0} {extra : List Vector} (y : NearTo s level extra)
        → IsLeft n at y.spot F → (q : List ℕ) × In q qs × (reaches at s q ≡ true)
    near_found {s} {level} y h =
        let f = counted (covers at y.spot) qs (omega (arith, near_once y h, count-is (covers at y.spot) qs)) in (f.0, f.1, reach f.0 f.1 f.2)
      where
        lies_or_not : (q : List ℕ) → In q qs → covers at y.spot q ≡ true → lies_in at i j k q ≡ true
        lies_or_not q m t = true_from_ne_false (lies_in at i j k q) (λ e.
            let o = covers_other c y.spot (off_lines c y.spot y.off) (covers_face c y.spot y.level h) q m e in cc)

        reach : (q : List ℕ) → In q qs → covers at y.spot q ≡ true → reaches at s q ≡ true
        reach q m t = reaches_flat q m (lies_or_not q m t) s level (λ u v g. by_lt_z (spot_turn n at u v s) (pos 0) (λ l. absurd (omega (
          arith,
          ints,
          l,
          y.keeps v u (lies_member c q m (lies_or_not q m t) v (follows_members u v q g).1)
              (lies_member c q m (lies_or_not q m t) u (follows_members u v q g).0) (omega (arith, ints, l, spot_turn-back n at u v s)),
          spot_turn-back n at u v y.spot,
          left_of n at y.spot q (sym (covers_flat c y.spot y.level q m (lies_or_not q m t)) ∙ t) u v g,
        ))) (λ l. l))

    -- so each spot of the face is reached
    pub reached : (s : Spot) → spot_height at i j k s ≡ pos 0 → IsNotRight n at s F → (q : List ℕ) × In q qs × (reaches at s q ≡ true)
    reached s level closed =
        near_found (moved c i j k r (turns c) (λ l o. o) s level closed) (moved_left c i j k r (turns c) (λ l o. o) s level closed)

    -- no spot is covered twice
    pub covered_once : (q : List ℕ) (m : In q qs) (lies : lies_in at i j k q ≡ true) (s : Spot) → spot_height at i j k s ≡ pos 0 → covers at s q ≡ true
        → count_by (covers at s) qs ≤ 1
    covered_once q m lies s level cover = omega (
      arith,
      near_once y (near_inside q m lies s level cover y),
      count-is (covers at s) qs,
      count-is (covers at y.spot) qs,
      count_more (covers at s) (covers at y.spot) qs (λ b o t. near_covers b o (one_plane q m lies s level cover b o t) s level t y),
    )
      where
        y : NearTo s level []
        y = near at i j k r (turns c) s level [] origin (λ x o. absurd o)
