-- The pieces of a surface of a solid cover each face once.
use Rattle.qh_check.specs.contract.Surfaces.{IsFaceSurface, IsHullSurface}
use Rattle.qh_laws_surface.proofs.{Covered.covers_height, Covered.height_flat, Covered.one_covers, FaceSpots.none_right, FaceSpots.right_of}
use Rattle.qh_laws_surface.proofs.PlanePieces.{Begun, begun, in_face, of_corners, piece_of, pieces_of}
use Rattle.qh_laws_surface.proofs.WholeFaces.{covered_once, face_reaches, inside_face, reached}
use Rattle.qh_laws_surface.specs.contract.{Covering.IsOffLines, Covering.Spot, Covering.covers, Covering.reaches, Covering.spot_height, Measures.lies_in}
use Rattle.qh_laws_surface.specs.laws.CoverLaws.{FacesAreCovered, FacesAreCoveredOnce, PiecesAreApart, PiecesLieInFaces, SpotsLieInFaces}
use Rattle.qh_model.proofs.Common.{Bool, Decides-int_eq, HasDistinctPoints, In, IsDimension, IsFace, List, Members, Vector, [], and_parts, arith, cases_Bool}
use Rattle.qh_model.proofs.Common.{count_by, cross, inl, inr, int_eq, pos, refl, steps_round, subst, sym, true, ℕ, ◌∷◌, ◌≡◌, ◌≤◌}
use Rattle.qh_model.proofs.{Decisions.Decided, Decisions.some_or_none, closed_surfaces.Sums.count, closed_surfaces.Sums.count-is}

-- the count is 0 if no member passes a test
pub none_counted : {X : Type 0} (p : X → Bool) (xs : List X) → ((x : X) → In x xs → ¬ (p x ≡ true)) → count p xs ≡ 0
none_counted p [] h = refl
none_counted p (x ∷ xs) h = elim (cases_Bool (p x)) [
  | inl t ↦ absurd (h x (inl refl) t)
  | inr f ↦ rw f (let r = none_counted p xs (λ y m. h y (inr m)) in omega (arith, r))
]

module _ (at : ℕ → Vector) (ids : List ℕ) (qs : List (List ℕ)) (d : HasDistinctPoints at (Members ids)) (solid : IsDimension at (Members ids) 3)
    (h : IsHullSurface at (Members ids) qs) where
  surface : IsFaceSurface at (Members ids) qs
  surface = pieces_of at ids qs solid h

  face_begun : (face : List ℕ) → IsFace at (Members ids) face → Begun at ids qs face
  face_begun face is = begun at ids qs d solid surface.pieces face is

  piece_face : (q : List ℕ) → In q qs → (face : List ℕ) × IsFace at (Members ids) face × ((l : ℕ) → In l q → In l face)
  piece_face q m = let p = piece_of at (Members ids) q (surface.pieces q m) in (p.face, (p.i, p.j, p.k, p.plane, p.polygon), in_face p)

  -- a piece with corners of a face lies in its plane, and so does a spot that it covers
  module _ (q : List ℕ) (m : In q qs) (face : List ℕ) (b : Begun at ids qs face) (o : (l : ℕ) → In l q → In l face) where
    lies : lies_in at b.i b.j b.k q ≡ true
    lies = of_corners b.over q (λ l e. subst (In l) b.is (o l e))

    covers_level : (s : Spot) → covers at s q ≡ true → spot_height at b.i b.j b.k s ≡ pos 0
    covers_level s t = let p = piece_of at (Members ids) q (surface.pieces q m) in height_flat b.over lies p s (covers_height p s t)

pub pieces_lie_in_faces : PiecesLieInFaces
pieces_lie_in_faces = piece_face

pub spots_lie_in_faces : SpotsLieInFaces
spots_lie_in_faces at ids qs d solid h q m face is o s = by (face_begun at ids qs d solid h face is)
  where
    by : Begun at ids qs face → (reaches at s q ≡ true → reaches at s face ≡ true) × (covers at s q ≡ true → covers at s face ≡ true)
    by b = (
      (λ t. subst (λ x. reaches at s x ≡ true) (sym b.is) (face_reaches b.over q m (lies at ids qs d solid h q m face b o) s t)),
      (λ t. subst (λ x. covers at s x ≡ true) (sym b.is) (inside_face b.over q m (lies at ids qs d solid h q m face b o) s
          (covers_level at ids qs d solid h q m face b o s t) t)),
    )

pub faces_are_covered : FacesAreCovered
faces_are_covered at ids qs d solid h face is s reach = by (face_begun at ids qs d solid h face is)
  where
    by : Begun at ids qs face → (q : List ℕ) × In q qs × (reaches at s q ≡ true)
    by b = reached b.over (surface at ids qs d solid h) s ((Decides-int_eq (spot_height at b.i b.j b.k s) (pos 0)).0 two.0)
        (right_of (cross (at b.i) (at b.j) (at b.k)) at s (b.i ∷ b.j ∷ b.k ∷ b.r) two.1)
      where
        two : (int_eq (spot_height at b.i b.j b.k s) (pos 0) ≡ true)
            × (none_right (cross (at b.i) (at b.j) (at b.k)) at s (steps_round (b.i ∷ b.j ∷ b.k ∷ b.r)) ≡ true)
        two = and_parts (int_eq (spot_height at b.i b.j b.k s) (pos 0))
            (none_right (cross (at b.i) (at b.j) (at b.k)) at s (steps_round (b.i ∷ b.j ∷ b.k ∷ b.r))) (subst (λ x. reaches at s x ≡ true) b.is reach)

pub pieces_are_apart : PiecesAreApart
pieces_are_apart at ids qs d solid h s = by (some_or_none (λ q. covers at s q ≡ true) covers_or_not qs)
  where
    covers_or_not : (q : List ℕ) → Decided (covers at s q ≡ true)
    covers_or_not q = elim (cases_Bool (covers at s q)) [ inl t ↦ inl t | inr e ↦ inr (λ t. cc) ]

    by : Decided ((q : List ℕ) × In q qs × (covers at s q ≡ true)) → count_by (covers at s) qs ≤ 1
    by (inr none) = let z = none_counted (covers at s) qs (λ q m t. none (q, m, t)) in omega (arith, z, count-is (covers at s) qs)
    by (inl (q, m, t)) = by_face (piece_face at ids qs d solid h q m)
      where
        by_face : (face : List ℕ) × IsFace at (Members ids) face × ((l : ℕ) → In l q → In l face) → count_by (covers at s) qs ≤ 1
        by_face (face, is, o) = let b = face_begun at ids qs d solid h face is in
            covered_once b.over (surface at ids qs d solid h) q m (lies at ids qs d solid h q m face b o) s
            (covers_level at ids qs d solid h q m face b o s t) t

pub faces_are_covered_once : FacesAreCoveredOnce
faces_are_covered_once at ids qs d solid h face is s inside off = by (face_begun at ids qs d solid h face is)
  where
    by : Begun at ids qs face → ◌≡◌ {A = ℕ} (count_by (covers at s) qs) 1
    by b = one_covers b.over s (subst (IsOffLines at s) b.is off) (subst (λ x. covers at s x ≡ true) b.is inside) (surface at ids qs d solid h)
