-- The first three corners of a face are a supporting triple with this face.
use Rattle.qh_model.proofs.Common.{ℕ, ◌≡◌, ◌≢◌, inl, inr, refl, List, [], ◌∷◌, pos, ◌<ℤ◌, IsFace, HasDistinctPoints, Vector, cross, vol, In, Members}
use Rattle.qh_model.{proofs.Common.IsSupportingTriple, proofs.Common.IsFacePolygon, specs.headline.Predicates.left, proofs.algebra.VectorIdentities.left-turn}
use Rattle.qh_model.proofs.polygons.{Fans.corners_support, Fans.face_fan, PlaneTurns.level_along, Edges.seen_from}
use Rattle.qh_check.{proofs.Pieces.one_beginning, specs.contract.Pieces.BeginsWith}

-- the three are a supporting triple whose polygon is q
abbrev pub HasFace : (ℕ → Vector) → (ℕ → Type 0) → List ℕ → (i j k : ℕ) → Type 0
HasFace at A q i j k = IsSupportingTriple at A i j k × IsFacePolygon at A i j k q

-- the first three corners, with their plane
record FirstCorners (at : ℕ → Vector) (A : ℕ → Type 0) (q : List ℕ) : Type 0 where
  i : ℕ
  j : ℕ
  k : ℕ
  rest : List ℕ
  is : q ≡ i ∷ j ∷ k ∷ rest
  face : HasFace at A q i j k

module _ (at : ℕ → Vector) (ids : List ℕ) (d : HasDistinctPoints at (Members ids)) (u v w : ℕ)
    (plane : IsSupportingTriple at (Members ids) u v w) where
  corners_of : (q : List ℕ) → IsFacePolygon at (Members ids) u v w q → FirstCorners at (Members ids) q
  corners_of [] p = let (a, b, c, e, s) = face_fan at ids d u v w plane [] [] p (inl refl) in cc
  corners_of (i ∷ []) p = let (a, b, c, e, s) = face_fan at ids d u v w plane (i ∷ []) (i ∷ []) p (inl refl) in cc
  corners_of (i ∷ j ∷ []) p = let (a, b, c, e, s) = face_fan at ids d u v w plane (i ∷ j ∷ []) (i ∷ j ∷ []) p (inl refl) in cc
  corners_of (i ∷ j ∷ k ∷ r) p = record { i = i; j = j; k = k; rest = r; is = refl; face = (triple, own) }
    where
      not_j : i ≢ j
      not_j e = p.once.0 (inl e)

      not_k : i ≢ k
      not_k e = p.once.0 (inr (inl e))

      triple : IsSupportingTriple at (Members ids) i j k
      triple = corners_support at ids u v w (i ∷ j ∷ k ∷ r) plane p j k i (inr (inl (refl, refl))) (inl refl) not_j not_k

      on : (l : ℕ) → In l (i ∷ j ∷ k ∷ r) → vol (at u) (at v) (at w) (at l) ≡ pos 0
      on l m = ((p.members l).0 m).1

      turn : pos 0 <ℤ left (cross (at u) (at v) (at w)) (at i) (at j) (at k)
      turn = rw (left-turn (cross (at u) (at v) (at w)) (at i) (at j) (at k)) (p.round j k (inr (inl (refl, refl))) i (inl refl) not_j not_k)

      own : IsFacePolygon at (Members ids) i j k (i ∷ j ∷ k ∷ r)
      own =
          let on_i = on i (inl refl) in
          let along = level_along (at u) (at v) (at w) (at i) (at j) (at k) plane.area on_i (on j (inr (inl refl))) (on k (inr (inr (inl refl)))) turn in
          seen_from at (Members ids) u v w i j k (i ∷ j ∷ k ∷ r) p along on_i

-- a face begins with three corners
pub some_corners : (at : ℕ → Vector) (ids : List ℕ) → HasDistinctPoints at (Members ids) → (q : List ℕ)
    → IsFace at (Members ids) q → (i j k : ℕ) × BeginsWith q i j k × HasFace at (Members ids) q i j k
some_corners at ids d q (u, v, w, plane, p) = let f = corners_of at ids d u v w plane q p in (f.i, f.j, f.k, (f.rest, f.is), f.face)

-- any three corners with which a face begins are a supporting triple with this face
pub corners_at : (at : ℕ → Vector) (ids : List ℕ) → HasDistinctPoints at (Members ids) → (q : List ℕ)
    → IsFace at (Members ids) q → (i j k : ℕ) → BeginsWith q i j k → HasFace at (Members ids) q i j k
corners_at at ids d q (u, v, w, plane, p) i j k own =
    let f = corners_of at ids d u v w plane q p in one_beginning (HasFace at (Members ids) q) q f.i f.j f.k i j k (f.rest, f.is) own f.face
