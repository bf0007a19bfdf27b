-- Faces that close up are all faces: their fans close up, since each diagonal of a polygon is taken in both directions.
use Rattle.qh_model.proofs.Common.{◌≡◌, ◌≢◌, ℕ, ◌+◌, arith, refl, sym, ap, subst, ◌∙◌, inl, inr, List, [], ◌∷◌, ◌++◌, cond, flat_map, pos, ◌<ℤ◌, ◌↔◌}
use Rattle.qh_model.proofs.Common.{steps_along, steps_round, AreClosed, AreClosedFaces, Triple, edges, is_edge, IsClosed, IsClosedSurface, HasDistinctPoints}
use Rattle.qh_model.proofs.Common.{Extreme, FollowsAlong, IsFacePolygon, cross, In, Members, IsSupportingTriple, Vector, AreSupporting}
use Rattle.qh_model.specs.{headline.Predicates.left, laws.ClosedFaceLaws.ClosedFacesAreAll, laws.ClosedFaceLaws.ClosedFacesHaveExtremes}
use Rattle.qh_model.proofs.{Members.to_contains, polygons.Edges.seen_from}
use Rattle.qh_model.proofs.{algebra.VectorIdentities.left-turn, closed_surfaces.SignedVolume.is_edge-back, lists.Joined.in_flat_map, lists.Joined.of_flat_map}
use Rattle.qh_model.proofs.{closed_surfaces.Sums.count, closed_surfaces.Sums.count-is, polygons.Fans.corners_support, polygons.Fans.face_fan}
use Rattle.qh_model.proofs.{closed_surfaces.Supporting.closed_miss_no_plane, closed_surfaces.Supporting.closed_miss_no_extreme, polygons.PlaneTurns.level_along}

-- ---- the triangles of a polygon
-- the triangles of a and two neighbours each, beginning with u along the list
abbrev triples_along : ℕ → ℕ → List ℕ → List Triple
triples_along a u [] = []
triples_along a u (w ∷ r) = record { i = a; j = u; k = w } ∷ triples_along a w r

abbrev triples_in : List ℕ → List Triple
triples_in [] = []
triples_in (a ∷ []) = []
triples_in (a ∷ u ∷ r) = triples_along a u r

-- the number of times that a pair occurs in a list
abbrev times : ℕ → ℕ → List (ℕ × ℕ) → ℕ
times u v es = count (is_edge (u, v)) es

abbrev one : ℕ → ℕ → ℕ → ℕ → ℕ
one u v a b = cond (is_edge (u, v) (a, b)) 1 0

-- a pair is (u, v) exactly if the reversed pair is (v, u)
one-back : (u v a b : ℕ) → one u v a b ≡ one v u b a
one-back u v a b = ap (λ t. cond t 1 0) (is_edge-back (u, v) (b, a))

-- the number of edges of triangles and steps of a path that are (u, v), and the number that are (v, u)
abbrev both_ways : ℕ → ℕ → List Triple → List (ℕ × ℕ) → ℕ
both_ways u v ts es = times u v (edges ts) + times v u es

-- the triangles over a path take one direction more often than the other as the path does, together with the steps from a and back
balanced_along : (u v a b : ℕ) (r : List ℕ) → times u v (edges (triples_along a b r)) + (one v u a b + times v u (steps_along b r a))
    ≡ times v u (edges (triples_along a b r)) + (one u v a b + times u v (steps_along b r a))
balanced_along u v a b [] = omega (arith, one-back u v a b, one-back v u a b)
balanced_along u v a b (w ∷ r) = omega (arith, balanced_along u v a w r, one-back u v a w, one-back v u a w)

-- the same for a polygon
balanced_round : (u v : ℕ) (q : List ℕ) → both_ways u v (triples_in q) (steps_round q) ≡ both_ways v u (triples_in q) (steps_round q)
balanced_round = grind (arith, one-back, balanced_along)

-- lists joined one after the other
times-append : (u v : ℕ) (xs ys : List (ℕ × ℕ)) → times u v (xs ++ ys) ≡ times u v xs + times u v ys
times-append u v [] ys = omega arith
times-append u v (x ∷ xs) ys = omega (arith, times-append u v xs ys)

times-edges : (u v : ℕ) (xs ys : List Triple) → times u v (edges (xs ++ ys)) ≡ times u v (edges xs) + times u v (edges ys)
times-edges u v [] ys = omega arith
times-edges u v (x ∷ xs) ys = omega (arith, times-edges u v xs ys)

balanced : (u v : ℕ) (qs : List (List ℕ)) → both_ways u v (flat_map triples_in qs) (flat_map steps_round qs)
    ≡ both_ways v u (flat_map triples_in qs) (flat_map steps_round qs)
balanced u v [] = refl
balanced u v (q ∷ qs) =
    let own = balanced_round u v q in
    let rest = balanced u v qs in
    omega (
      arith,
      own,
      rest,
      times-edges u v (triples_in q) (flat_map triples_in qs),
      times-edges v u (triples_in q) (flat_map triples_in qs),
      times-append u v (steps_round q) (flat_map steps_round qs),
      times-append v u (steps_round q) (flat_map steps_round qs),
    )

-- closed polygons have closed fans
closed_fans : (qs : List (List ℕ)) → AreClosed qs → IsClosed (flat_map triples_in qs)
closed_fans qs h u v = sym (count-is (is_edge (u, v)) (edges ts)) ∙ same ∙ count-is (is_edge (v, u)) (edges ts)
  where
    ts : List Triple
    ts = flat_map triples_in qs

    ss : List (ℕ × ℕ)
    ss = flat_map steps_round qs

    same : times u v (edges ts) ≡ times v u (edges ts)
    same = omega (arith, balanced u v qs, count-is (is_edge (u, v)) ss ∙ h u v ∙ sym (count-is (is_edge (v, u)) ss))

-- ---- they are supporting triples with the same polygon
-- two neighbours on the path from u along the list
record IsTripleAlong (a u : ℕ) (r : List ℕ) (t : Triple) : Type 0 where
  first : t.i ≡ a
  has_j : In t.j (u ∷ r)
  has_k : In t.k r
  follows : (e : ℕ) → FollowsAlong t.j t.k u r e

triple_along : (a u : ℕ) (r : List ℕ) (t : Triple) → In t (triples_along a u r) → IsTripleAlong a u r t
triple_along a u [] t m = absurd m
triple_along a u (w ∷ r) t (inl e) = record {
  first = ap (λ x. x.i) e;
  has_j = inl (ap (λ x. x.j) e);
  has_k = inl (ap (λ x. x.k) e);
  follows = λ z. inl (sym (ap (λ x. x.j) e), sym (ap (λ x. x.k) e));
}
triple_along a u (w ∷ r) t (inr m) = let s = triple_along a w r t m in record {
  first = s.first;
  has_j = inr s.has_j;
  has_k = inr s.has_k;
  follows = λ e. inr (s.follows e);
}

-- a supporting triple whose polygon is q
abbrev HasFace : (ℕ → Vector) → (ℕ → Type 0) → List ℕ → Triple → Type 0
HasFace at A q t = IsSupportingTriple at A t.i t.j t.k × IsFacePolygon at A t.i t.j t.k q

module _ (at : ℕ → Vector) (ids : List ℕ) (i j k : ℕ) (plane : IsSupportingTriple at (Members ids) i j k) where
  abbrev n : Vector
  n = cross (at i) (at j) (at k)

  abbrev IsOwnFace : List ℕ → Type 0
  IsOwnFace q = IsFacePolygon at (Members ids) i j k q

  corner_face : (q : List ℕ) (a v w : ℕ) → IsOwnFace q → In a q → In v q → In w q
      → pos 0 <ℤ left n (at a) (at v) (at w) → IsFacePolygon at (Members ids) a v w q
  corner_face q a v w p ha hv hw turn =
      let on_a = ((p.members a).0 ha).1 in
      let on_v = ((p.members v).0 hv).1 in
      let on_w = ((p.members w).0 hw).1 in
      let along = level_along (at i) (at j) (at k) (at a) (at v) (at w) plane.area on_a on_v on_w turn in
      seen_from at (Members ids) i j k a v w q p along on_a

  triples_support : (q : List ℕ) (t : Triple) → IsOwnFace q → In t (triples_in q) → HasFace at (Members ids) q t
  triples_support [] t p m = absurd m
  triples_support (a ∷ []) t p m = absurd m
  triples_support (a ∷ u ∷ r) t p m = subst OfFirst (sym s.first) (
    corners_support at ids i j k (a ∷ u ∷ r) plane p t.j t.k a follows (inl refl) not_j not_k,
    corner_face (a ∷ u ∷ r) a t.j t.k p (inl refl) (inr s.has_j) (inr (inr s.has_k)) turn,
  )
    where
      OfFirst : ℕ → Type 0
      OfFirst x = IsSupportingTriple at (Members ids) x t.j t.k × IsFacePolygon at (Members ids) x t.j t.k (a ∷ u ∷ r)

      s : IsTripleAlong a u r t
      s = triple_along a u r t m

      follows : FollowsAlong t.j t.k a (u ∷ r) a
      follows = inr (s.follows a)

      not_j : a ≢ t.j
      not_j e = p.once.0 (subst (λ x. In x (u ∷ r)) (sym e) s.has_j)

      not_k : a ≢ t.k
      not_k e = p.once.0 (inr (subst (λ x. In x r) (sym e) s.has_k))

      turn : pos 0 <ℤ left n (at a) (at t.j) (at t.k)
      turn = subst (λ x. pos 0 <ℤ x) (sym (left-turn n (at a) (at t.j) (at t.k))) (p.round t.j t.k follows a (inl refl) not_j not_k)

  -- there are some triangles
  some_triples : HasDistinctPoints at (Members ids) → (q : List ℕ) → IsOwnFace q → (t : Triple) × In t (triples_in q)
  some_triples d [] p = let s = face_fan at ids d i j k plane [] [] p (inl refl) in absurd (cc s.3)
  some_triples d (a ∷ []) p = let s = face_fan at ids d i j k plane (a ∷ []) (a ∷ []) p (inl refl) in absurd (cc s.3)
  some_triples d (a ∷ b ∷ []) p = let s = face_fan at ids d i j k plane (a ∷ b ∷ []) (a ∷ b ∷ []) p (inl refl) in absurd (cc s.3)
  some_triples d (a ∷ b ∷ c ∷ r) p = (record { i = a; j = b; k = c }, inl refl)

-- ---- the laws
module _ (at : ℕ → Vector) (ids : List ℕ) (qs : List (List ℕ)) (d : HasDistinctPoints at (Members ids))
    (h : AreClosedFaces at (Members ids) qs) where
  abbrev fans : List Triple
  fans = flat_map triples_in qs

  -- a polygon of the list that is the face of a triple
  abbrev FaceOf : Triple → Type 0
  FaceOf t = (q : List ℕ) × In q qs × HasFace at (Members ids) q t

  -- each triangle has its polygon in the list
  face_of : (t : Triple) → In t fans → FaceOf t
  face_of t m =
      let r = of_flat_map triples_in qs t m in let f = h.faces r.0 r.1 in
      (r.0, r.1, triples_support at ids f.0 f.1 f.2 f.3 r.0 t f.4 r.2)

  supporting : AreSupporting at (Members ids) fans
  supporting t m = let f = face_of t m in f.2.0

  surface : IsClosedSurface at fans
  surface =
      let f = h.faces h.some h.there in let t = some_triples at ids f.0 f.1 f.2 f.3 d h.some f.4 in
      let place = to_contains fans t.0 (in_flat_map triples_in qs h.some t.0 h.there t.1) in
      record { some = omega (arith, place.1); area = λ t m. (supporting t m).area; closed = closed_fans qs h.closed }

  each : (i j k : ℕ) → IsSupportingTriple at (Members ids) i j k → (q : List ℕ) × In q qs × IsFacePolygon at (Members ids) i j k q
  each i j k plane =
      let s = closed_miss_no_plane at ids fans surface supporting i j k plane in let f = face_of s.t s.there in
      (f.0, f.1, seen_from at (Members ids) s.t.i s.t.j s.t.k i j k f.0 f.2.1 s.along s.level)

  extremes : (l : ℕ) → Extreme at (Members ids) l ↔ ((q : List ℕ) × In q qs × In l q)
  extremes l = (
    λ e. let x = closed_miss_no_extreme at ids fans surface supporting l e in let f = face_of x.0 x.1 in
        (f.0, f.1, (f.2.1.members l).1 (e, x.2)),
    λ m. let f = h.faces m.0 m.1 in ((f.4.members l).0 m.2).0,
  )

pub closed_faces_are_all : ClosedFacesAreAll
closed_faces_are_all at ids qs d h rising = record { rising = rising; each = each at ids qs d h; only = h.faces }

pub closed_faces_have_extremes : ClosedFacesHaveExtremes
closed_faces_have_extremes at ids qs d h = extremes at ids qs d h
