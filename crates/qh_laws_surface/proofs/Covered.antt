-- Each spot of a face that lies on no line through two of its corners is covered by one piece.
use Rattle.qh_check.specs.contract.Surfaces.{IsFaceSurface}
use Rattle.qh_laws.proofs.{Crossings.number, Signs.above}
use Rattle.qh_laws_surface.proofs.{ConvexLists.AllTurn, ConvexLists.polygon_turns, FaceWays.goes_round_once, HullSurface.corner_face, HullSurface.corner_triple}
use Rattle.qh_laws_surface.proofs.PlanePieces.{OverFace, PieceOf, all_alike, has_i, has_j, has_k, in_parts, lies_level, normal, of_face, on, part_member}
use Rattle.qh_laws_surface.proofs.{PlanePieces.part_turns, PlanePieces.parts, PlanePieces.piece, SharedCorners.same_face, SharedCorners.same_plane}
use Rattle.qh_laws_surface.proofs.SpotFans.{InTriangle, Off, all_left, covered, covers_along, in_triangle, round_over}
use Rattle.qh_laws_surface.proofs.SpotHeights.{above_along, all_level, along_height, off_line}
use Rattle.qh_laws_surface.proofs.{SpotTriangles.over, SpotTriangles.over-odd, StepCounts.sum-append}
use Rattle.qh_laws_surface.specs.contract.{Covering.IsOffLines, Covering.Spot, Covering.covers, Covering.spot_height, Covering.spot_turn, Measures.lies_in}
use Rattle.qh_model.proofs.Common.{Bool, Decides-int_eq, In, IsAlong, List, Members, Vector, [], and_parts, ap, arith, cases_Bool, cond, count_by, cross, false}
use Rattle.qh_model.proofs.Common.{false_from_ne_true, filter, flat_map, inl, inr, int_eq, ints, pos, refl, steps_round, subst, sym, true, vol, ℕ, ◌+◌, ◌∙◌}
use Rattle.qh_model.proofs.{Common.◌∷◌, Common.◌≡◌, algebra.VectorIdentities.vol-first, closed_surfaces.Sums.count, closed_surfaces.Sums.count-is}
use Rattle.qh_model.proofs.{closed_surfaces.Sums.sum_z, extremes.Directions.along_back, extremes.Directions.vol_along, extremes.Directions.zero_along}

-- a spot that a piece covers lies in its plane
pub covers_height : {at : ℕ → Vector} {A : ℕ → Type 0} {q : List ℕ} (p : PieceOf at A q) (s : Spot)
    → covers at s q ≡ true → spot_height at p.i p.j p.k s ≡ pos 0
covers_height {at} p s t = (Decides-int_eq (spot_height at p.i p.j p.k s) (pos 0)).0 (and_parts (int_eq (spot_height at p.i p.j p.k s) (pos 0))
    (all_left (normal p) at s (steps_round (p.i ∷ p.j ∷ p.k ∷ p.rest))) (subst (λ x. covers at s x ≡ true) p.is t)).0

-- the count by a test that equals a third test where a second passes, and fails elsewhere
pub count_parts : (c l p : List ℕ → Bool) (qs : List (List ℕ)) → ((q : List ℕ) → In q qs → l q ≡ true → c q ≡ p q)
    → ((q : List ℕ) → In q qs → l q ≡ false → c q ≡ false) → count c qs ≡ count p (filter l qs)
count_parts c l p [] h k = refl
count_parts c l p (q ∷ qs) h k =
    let r = count_parts c l p qs (λ x m. h x (inr m)) (λ x m. k x (inr m)) in elim (cases_Bool (l q)) [
      | inl t ↦ (let e = h q (inl refl) t in rw t (rw e (ap (λ z. cond (p q) 1 0 + z) r)))
      | inr f ↦ (let e = k q (inl refl) f in rw f (rw e (omega (arith, r))))
    ]

-- ---- pieces in the plane of a face, and a spot of the plane
module _ {at : ℕ → Vector} {ids : List ℕ} {qs : List (List ℕ)} {i j k : ℕ} {F : List ℕ} (c : OverFace at ids qs i j k F) where
  abbrev n : Vector
  n = cross (at i) (at j) (at k)

  module _ {q : List ℕ} (e : lies_in at i j k q ≡ true) (p : PieceOf at (Members ids) q) where
    -- the piece has the same side outside
    pub flat_along : IsAlong n (normal p)
    flat_along = same_plane at ids c.solid c.plane p.plane (lies_level at i j k q e p.i (has_i p))
        (lies_level at i j k q e p.j (has_j p)) (lies_level at i j k q e p.k (has_k p))

    -- a spot lies in its plane exactly if it lies in the plane of the face
    pub flat_height : (s : Spot) → spot_height at i j k s ≡ pos 0 → spot_height at p.i p.j p.k s ≡ pos 0
    flat_height s h = along_height at i j k p.i p.j p.k s flat_along h (lies_level at i j k q e p.i (has_i p))

    pub height_flat : (s : Spot) → spot_height at p.i p.j p.k s ≡ pos 0 → spot_height at i j k s ≡ pos 0
    height_flat s h = along_height at p.i p.j p.k i j k s (along_back n (normal p) flat_along) h (zero_along flat_along.s flat_along.t _ _ flat_along.some_t
        (vol_along (at i) (at j) (at k) (at p.i) (at p.j) (at p.k) (at i) flat_along (lies_level at i j k q e p.i (has_i p)))
        (vol-first (at i) (at j) (at k)))

  -- the piece covers a spot of the plane exactly if the spot lies to the left of each of its sides
  pub covers_flat : (s : Spot) → spot_height at i j k s ≡ pos 0 → (q : List ℕ) → In q qs → lies_in at i j k q ≡ true
      → covers at s q ≡ all_left n at s (steps_round q)
  covers_flat s level q m e = by (piece c q m)
    where
      by : PieceOf at (Members ids) q → covers at s q ≡ all_left n at s (steps_round q)
      by p = subst (λ x. covers at s x ≡ all_left n at s (steps_round x)) (sym p.is)
          (rw ((Decides-int_eq (spot_height at p.i p.j p.k s) (pos 0)).1 (flat_height e p s level))
          (all_alike (λ e. above (spot_turn (normal p) at e.0 e.1 s)) (λ e. above (spot_turn n at e.0 e.1 s))
          (steps_round (p.i ∷ p.j ∷ p.k ∷ p.rest)) (λ o m. sym (above_along n (normal p) at o.0 o.1 s (flat_along e p)))))

-- ---- a spot strictly inside the face, off all lines
module _ {at : ℕ → Vector} {ids : List ℕ} {qs : List (List ℕ)} {i j k : ℕ} {r : List ℕ} (c : OverFace at ids qs i j k (i ∷ j ∷ k ∷ r))
    (s : Spot) (off : IsOffLines at s (i ∷ j ∷ k ∷ r)) (inside : covers at s (i ∷ j ∷ k ∷ r) ≡ true) where
  abbrev F : List ℕ
  F = i ∷ j ∷ k ∷ r

  abbrev N : Vector
  N = cross (at i) (at j) (at k)

  abbrev left_all : List ℕ → Bool
  left_all q = all_left N at s (steps_round q)

  -- the spot lies in the plane, and to the left of each side
  two : (int_eq (spot_height at i j k s) (pos 0) ≡ true) × (left_all F ≡ true)
  two = and_parts (int_eq (spot_height at i j k s) (pos 0)) (left_all F) inside

  level_spot : spot_height at i j k s ≡ pos 0
  level_spot = (Decides-int_eq (spot_height at i j k s) (pos 0)).0 two.0

  off_turns : Off N at s (λ x. In x F)
  off_turns u v fu fv ne = off_line at i j k u v s c.plane.area level_spot (on c u fu) (on c v fv) (off u v fu fv ne)

  face_turns : AllTurn N at F
  face_turns = polygon_turns N at c.polygon

  -- the number of triangles of a fan in which the spot lies is 1 if it lies inside the polygon, and 0 otherwise
  fan_count : (q : List ℕ) (x y z : ℕ) (rest : List ℕ) → q ≡ x ∷ y ∷ z ∷ rest → ((l : ℕ) → In l q → In l F) → AllTurn N at q
      → covered N at s q ≡ pos (number (left_all q))
  fan_count q x y z rest e h t =
      subst (λ p. covered N at s p ≡ pos (number (left_all p))) (sym e)
      (covers_along N at s (λ l. In l F) off_turns x y (z ∷ rest) (λ l m. h l (subst (In l) (sym e) m)) (subst (AllTurn N at) e t))

  fan_counts : (ps : List (List ℕ)) → ((q : List ℕ) → In q ps → In q (parts c)) → sum_z (covered N at s) ps ≡ pos (count left_all ps)
  fan_counts [] h = refl
  fan_counts (q ∷ ps) h =
      let p = piece c q (in_parts c q (h q (inl refl))).0 in
      let one = fan_count q p.i p.j p.k p.rest p.is (part_member c q (h q (inl refl))) (part_turns c q (h q (inl refl))) in
      omega (arith, ints, one, fan_counts ps (λ x o. h x (inr o)))

  over_parts : (ps : List (List ℕ)) → ((q : List ℕ) → In q ps → In q (parts c)) → sum_z (over N at s i) (flat_map steps_round ps) ≡ sum_z (covered N at s) ps
  over_parts [] h = refl
  over_parts (q ∷ ps) h =
      sum-append (over N at s i) (steps_round q) (flat_map steps_round ps) ∙ omega (
        arith,
        ints,
        over_parts ps (λ x o. h x (inr o)),
        round_over N at s (λ l. In l F) off_turns i (inl refl) q (part_member c q (h q (inl refl))) (part_turns c q (h q (inl refl))),
      )

  -- no piece outside the plane covers the spot
  pub covers_other : (q : List ℕ) → In q qs → lies_in at i j k q ≡ false → covers at s q ≡ false
  covers_other q m e = false_from_ne_true (covers at s q) (by (piece c q m))
    where
      inner : InTriangle N at s F
      inner = in_triangle N at s (λ l. In l F) off_turns i j k r (λ l o. o) face_turns two.1

      by : PieceOf at (Members ids) q → covers at s q ≡ true → ⊥
      by p t = let lies = of_face c p one in cc
        where
          member : (l : ℕ) → In l F → Members ids l
          member l o = ((c.polygon.members l).0 o).0.0

          zeros : (vol (at p.i) (at p.j) (at p.k) (at inner.a) ≡ pos 0)
              × ((vol (at p.i) (at p.j) (at p.k) (at inner.v) ≡ pos 0) × (vol (at p.i) (at p.j) (at p.k) (at inner.w) ≡ pos 0))
          zeros = all_level at s i j k c.plane.area level_spot inner.a inner.v inner.w (on c inner.a inner.has_a)
              (on c inner.v inner.has_v) (on c inner.w inner.has_w) p.i p.j p.k inner.av inner.vw inner.wa
              (p.plane.supports inner.a (member inner.a inner.has_a)) (p.plane.supports inner.v (member inner.v inner.has_v))
              (p.plane.supports inner.w (member inner.w inner.has_w)) (covers_height p s t)

          one : F ≡ p.face
          one = sym (same_face at ids c.solid p.plane
              (corner_triple at ids c.plane c.polygon inner.a inner.v inner.w inner.has_a inner.has_v inner.has_w inner.turns) zeros.0 zeros.1.0 zeros.1.1
              p.polygon (corner_face at ids c.plane c.polygon inner.a inner.v inner.w inner.has_a inner.has_v inner.has_w inner.turns))

  -- exactly one piece covers the spot
  pub one_covers : IsFaceSurface at (Members ids) qs → count_by (covers at s) qs ≡ 1
  one_covers surface =
      sym (count-is (covers at s) qs) ∙ count_parts (covers at s) (lies_in at i j k) left_all qs (covers_flat c s level_spot) covers_other ∙ one_part
    where
      one_part : count left_all (parts c) ≡ 1
      one_part =
          let whole = fan_count F i j k r refl (λ l m. m) face_turns in
          let number_of = rw two.1 at whole in
          let steps = goes_round_once c surface (over N at s i) (over-odd N at s i) in
          let own_steps = round_over N at s (λ l. In l F) off_turns i (inl refl) F (λ l m. m) face_turns in
          let sums = over_parts (parts c) (λ q m. m) in
          let counts = fan_counts (parts c) (λ q m. m) in
          omega (arith, ints, number_of, steps, own_steps, sums, counts)
