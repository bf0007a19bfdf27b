-- The polygon of a plane with one facet has the corners of that facet, beginning with the least.
use Rattle.qh_model.proofs.Common.{◌≡◌, ◌≢◌, ℕ, ◌<◌, List, [], ◌∷◌, length, sym, subst, refl, arith, Bool, true, false, cond, nat_tests, ◌&&◌, nat_lt, pos}
use Rattle.qh_model.proofs.Common.{◌<ℤ◌, IsFinished, IsIdSet, StoredFacet, facet_at, surface_of, Vector, place, cross, AreInLine, Members, Extreme, IsPolygon}
use Rattle.qh_model.{proofs.Common.IsLevelFacet, specs.headline.Predicates.left}
use Rattle.qh_model.proofs.algebra.VectorIdentities.{left-dot, left-turn}
use Rattle.qh_model.proofs.{extremes.Directions.square-positive, surfaces.Finished.facet_area, surfaces.Stored.live_is_marked}
use Rattle.{qh_mesh.specs.contract.Replacement.IsLive, qh_polygon.proofs.polygons.Triangle.left_triangle, qh_surface.specs.contract.Walks.IsWalkFrom}
use Rattle.qh_block.specs.steps.Faces.{three_of, corners_of, from_least, IsNewPlane, IsNewFace}
use Rattle.qh_block.proofs.{finished.Corners.in_corners, finished.NewFaces.face_of_corners, flats.Polygons.corners_differ}

-- three ids that are not in line, beginning with the least, are their polygon
least_first : (at : ℕ → Vector) (i j k : ℕ) → ¬ (AreInLine (at i) (at j) (at k))
    → IsPolygon at (Extreme at (Members (i ∷ j ∷ k ∷ []))) (cross (at i) (at j) (at k)) (from_least i j k)
least_first at i j k area = by_test (nat_lt i j && nat_lt i k) refl (nat_lt j k) refl
  where
    n : Vector
    n = cross (at i) (at j) (at k)

    first : pos 0 <ℤ left n (at i) (at j) (at k)
    first = subst (λ t. pos 0 <ℤ t) (sym (left-dot n (at i) (at j) (at k))) (square-positive n area)

    turn : (a b c : Vector) → pos 0 <ℤ left n a b c → pos 0 <ℤ left n b c a
    turn a b c h = subst (λ t. pos 0 <ℤ t) (left-turn n a b c) h

    d : (i ≢ j) × (j ≢ k) × (i ≢ k)
    d = corners_differ at i j k area

    by_test : (b : Bool) → (nat_lt i j && nat_lt i k) ≡ b → (e : Bool) → nat_lt j k ≡ e
        → IsPolygon at (Extreme at (Members (i ∷ j ∷ k ∷ []))) n (cond b (i ∷ j ∷ k ∷ []) (cond e (j ∷ k ∷ i ∷ []) (k ∷ i ∷ j ∷ [])))
    by_test true p e q = let lower : (i < j) × (i < k) = grind (arith, nat_tests) in
        left_triangle n at _ i j k (λ x. (λ m. m, λ m. m)) lower.0 lower.1 d.1 first
    by_test false p true q = let lower : (j < k) × (j < i) = grind (arith, nat_tests, d) in
        left_triangle n at _ j k i (λ x. (λ m. grind (arith, m), λ m. grind (arith, m)))
        lower.0 lower.1 (λ q. d.2 (sym q)) (turn _ _ _ first)
    by_test false p false q = let lower : (k < i) × (k < j) = grind (arith, nat_tests, d) in
        left_triangle n at _ k i j (λ x. (λ m. grind (arith, m), λ m. grind (arith, m)))
        lower.0 lower.1 d.0 (turn _ _ _ (turn _ _ _ first))

-- the face of a plane in which a walk found one facet
pub lone_triangle : (pts : List Vector) (ids : List ℕ) (fs : List StoredFacet) (f : ℕ) (before after : List Bool) (vs : List ℕ)
    → length vs ≡ 1 → IsIdSet pts ids → IsFinished (place pts) ids (surface_of fs) → IsLive fs f → IsNewPlane (place pts) fs before f
    → IsWalkFrom (IsLevelFacet (place pts) (surface_of fs) f) fs before after f vs
    → IsNewFace (place pts) (Members ids) fs f before after (from_least (facet_at fs f).i (facet_at fs f).j (facet_at fs f).k)
lone_triangle pts ids fs f before after [] one set z live new w = absurd w.start
lone_triangle pts ids fs f before after (g ∷ h ∷ vs) one set z live new w = absurd (omega (arith, one))
lone_triangle pts ids fs f before after (g ∷ []) one set z live new w =
    let t = facet_at fs f in let same : f ≡ g = grind (arith, w.start) in
    face_of_corners pts ids fs f before after (g ∷ []) set z live new w (corners_of fs (g ∷ [])) _ (in_corners fs (g ∷ []))
    (subst (λ v. IsPolygon (place pts) (Extreme (place pts) (Members (three_of fs v)))
    (cross (place pts t.i) (place pts t.j) (place pts t.k)) (from_least t.i t.j t.k)) same
    (least_first (place pts) t.i t.j t.k (facet_area (place pts) ids (surface_of fs) z f ((live_is_marked fs f).1 live))))
