-- A polygon that goes round corners of a face, and turns as the face does, is a piece of it.
use Rattle.qh_check.proofs.{FirstCorners.HasFace, FirstCorners.corners_at, MetBehind.round_has, Verdicts.faces_of}
use Rattle.qh_check.specs.{contract.Pieces.IsMetRound, contract.Pieces.IsPiece, declared.findings.Finding.Finding}
use Rattle.qh_check.specs.steps.{Faces.IsFaceOf, Findings.IsFound, Findings.IsSeen, HullFaces.IsPieceAmong, HullFaces.TurnsAlike}
use Rattle.qh_model.proofs.Common.{ℕ, ◌≡◌, ◌≢◌, ap, inl, inr, refl, sym, subst, ◌∙◌, List}
use Rattle.qh_model.proofs.Common.{[], get_or, All, pos, ◌<ℤ◌, Option, Some, None, MatchOption, is_gt, IsFace, HasDistinctPoints, IsIdSet, BodyValue, IsBody}
use Rattle.qh_model.proofs.Common.{IsDimension, Vector, origin, dot, cross, place, vol, In, Members, IsSupportingTriple, AreFaces, ArePolygons, IsFacePolygon}
use Rattle.qh_model.proofs.Members.{All-In, All-of, In-get_or}
use Rattle.qh_model.proofs.algebra.{Order.cancel-nonpos, Order.mul-nonneg_nonpos, Order.positive_le, Signs.less_differ, VectorIdentities.in_line-left}
use Rattle.qh_model.proofs.{extremes.Directions.from_plane, extremes.Directions.square-positive, polygons.Edges.seen_from, polygons.PlaneTurns.level_along}
use Rattle.qh_model.{proofs.polygons.PlaneTurns.level_volume, specs.headline.Predicates.left}
use Rattle.{qh_polygon.proofs.polygons.Chain.is_left-yes, qh_pred.proofs.Turns.turn_sign, qh_pred.specs.contract.Turns.IsAcross}

module _ (pts : List Vector) (ids : List ℕ) (d : HasDistinctPoints (place pts) (Members ids)) (face q : List ℕ)
    (own : IsFace (place pts) (Members ids) face) (met : IsMetRound q face) (t : TurnsAlike pts face q) where
  abbrev at : ℕ → Vector
  at = place pts

  -- the plane of the first three corners of the face
  plane : HasFace at (Members ids) face t.u t.v t.w
  plane = corners_at at ids d face own t.u t.v t.w t.plane

  abbrev n : Vector
  n = cross (at t.u) (at t.v) (at t.w)

  -- the first three corners of the piece lie in this plane, and are members
  corner : (x : ℕ) → In x q → Members ids x × (vol (at t.u) (at t.v) (at t.w) (at x) ≡ pos 0)
  corner x m = let on = (plane.1.members x).0 (round_has q face met x m) in (on.0.0, on.1)

  has_i : In t.i q
  has_i = rw t.begins.1 (inl refl)

  has_j : In t.j q
  has_j = rw t.begins.1 (inr (inl refl))

  has_k : In t.k q
  has_k = rw t.begins.1 (inr (inr (inl refl)))

  -- the three corners turn left
  turn : pos 0 <ℤ left n (at t.i) (at t.j) (at t.k)
  turn = is_left-yes (left n (at t.i) (at t.j) (at t.k)) (sym (ap is_gt (turn_sign n (at t.i) (at t.j) (at t.k) across)) ∙ t.turn)
    where
      some : n ≢ origin
      some e = less_differ (pos 0) (dot n n) (square-positive n plane.0.area) (sym (ap (λ (m : Vector). dot m m) e))

      across : IsAcross n (at t.i) (at t.j) (at t.k)
      across = record {
        some = some;
        to_v = from_plane (at t.u) (at t.v) (at t.w) (at t.i) (at t.j) (corner t.i has_i).1 ∙ (corner t.j has_j).1;
        to_w = from_plane (at t.u) (at t.v) (at t.w) (at t.i) (at t.k) (corner t.i has_i).1 ∙ (corner t.k has_k).1;
      }

  -- so the three corners are a supporting triple
  triple : IsSupportingTriple at (Members ids) t.i t.j t.k
  triple = record {
    has_i = (corner t.i has_i).0;
    has_j = (corner t.j has_j).0;
    has_k = (corner t.k has_k).0;
    area = λ e. less_differ (pos 0) (left n (at t.i) (at t.j) (at t.k)) turn (sym (in_line-left n (at t.i) (at t.j) (at t.k) e));
    supports = λ l a. cancel-nonpos (dot n n) (vol (at t.i) (at t.j) (at t.k) (at l)) (square-positive n plane.0.area)
        (rw (level_volume (at t.u) (at t.v) (at t.w) (at t.i) (at t.j) (at t.k) (at l) (corner t.i has_i).1 (corner t.j has_j).1 (corner t.k has_k).1)
        (mul-nonneg_nonpos (left n (at t.i) (at t.j) (at t.k)) (vol (at t.u) (at t.v) (at t.w) (at l)) (positive_le _ turn) (plane.0.supports l a)));
  }

  -- the supporting triple has the same polygon
  polygon : IsFacePolygon at (Members ids) t.i t.j t.k face
  polygon =
      let along = level_along (at t.u) (at t.v) (at t.w) (at t.i) (at t.j) (at t.k) plane.0.area (corner t.i has_i).1
      (corner t.j has_j).1 (corner t.k has_k).1 turn in
      seen_from at (Members ids) t.u t.v t.w t.i t.j t.k face plane.1 along (corner t.i has_i).1

  pub turned_piece : IsPiece at (Members ids) q
  turned_piece = (t.i, t.j, t.k, triple, (t.begins, (face, polygon, met)))

-- a polygon is a piece if this holds for one of the faces of a solid set
pub piece_among : (pts : List Vector) (ids : List ℕ) (faces : List (List ℕ)) (q : List ℕ) → AreFaces (place pts) (Members ids) faces
    → IsPieceAmong pts faces q → IsFaceOf pts ids q
piece_among pts ids faces q are (k, (l, met, t)) =
    λ d. turned_piece pts ids d (get_or faces k []) q (are.only (get_or faces k []) (In-get_or faces k [] l)) met t

-- the polygons of the hull of a solid set are its faces
pub faces_of_body : (pts : List Vector) (ids : List ℕ) → IsIdSet pts ids → IsDimension (place pts) (Members ids) 3
    → (b : BodyValue) → IsBody (place pts) (Members ids) b → (faces : List (List ℕ)) → b.polygons ≡ faces → AreFaces (place pts) (Members ids) faces
faces_of_body pts ids set solid b body faces e =
    faces_of pts ids faces set solid (b.dim, body.dim, subst (ArePolygons (place pts) (Members ids) b.dim) e body.polygons)

-- so all polygons that are found to be pieces are pieces
pub seen_pieces : (pts : List Vector) (ids : List ℕ) (faces qs : List (List ℕ)) → AreFaces (place pts) (Members ids) faces → (o : Option Finding)
    → MatchOption o (All (IsSeen pts ids faces) qs) (IsFound pts ids qs) → MatchOption o (All (IsFaceOf pts ids) qs) (IsFound pts ids qs)
seen_pieces pts ids faces qs are (Some f) h = h
seen_pieces pts ids faces qs are None all = All-of (IsFaceOf pts ids) qs (λ q m. by q (All-In (IsSeen pts ids faces) qs q all m))
  where
    by : (q : List ℕ) → IsSeen pts ids faces q → IsFaceOf pts ids q
    by q (inl among) = piece_among pts ids faces q are among
    by q (inr own) = own
