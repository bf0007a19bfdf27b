-- A set and its extreme ids have the same supporting planes and the same polygons.
use Rattle.qh_model.proofs.Common.{AreExtremes, AreFaces, ArePolygons, Extreme, HasDistinctPoints, HasSegment, HasTetrahedron, HasTriangle, IsAlong}
use Rattle.qh_model.proofs.Common.{IsFacePolygon, IsFlatFace, IsSegmentFace, IsSupportingTriple, List, Members, OnPlane, SpannedByExtremes, Vector, arith}
use Rattle.qh_model.proofs.Common.{cross, inl, inr, ℕ, ⊎_elim, ◌↔◌}
use Rattle.qh_model.proofs.extremes.{Dimensions.triangle_of, Directions.along_back, Directions.along_itself, ExtremeIds.combination_of_extremes}
use Rattle.qh_model.proofs.extremes.{ExtremeIds.extremes_between, ExtremeIds.listed_itself, Faces.support_of_extremes, SameDimension.dimension_of_extremes}
use Rattle.qh_model.proofs.{extremes.SpanningTriples.planes_of_extremes, hulls.FlatSets.flat_normals, hulls.FlatSets.forward_along}
use Rattle.qh_model.proofs.{hulls.FlatSets.forward_not_zero, hulls.Unique.alone_of, hulls.Unique.flat_of, polygons.Direction.polygon_as}
use Rattle.qh_model.specs.laws.HullLaws.{BodyOfExtremes, PolygonsOfExtremes, TriplesOfExtremes}

-- ---- facts about extreme ids hold for another set with the same extreme ids
-- the list of the extreme ids
pub extremes_told : (at : ℕ → Vector) (A B : ℕ → Type 0) → ((i : ℕ) → Extreme at A i ↔ Extreme at B i)
    → (xs : List ℕ) → AreExtremes at A xs → AreExtremes at B xs
extremes_told at A B same xs x = record { rising = x.rising; members = λ i. (λ m. (same i).0 ((x.members i).0 m), λ e. (x.members i).1 ((same i).1 e)) }

-- the two ends of a segment
segment_told : (at : ℕ → Vector) (A B : ℕ → Type 0) → ((i : ℕ) → Extreme at A i ↔ Extreme at B i) → (q : List ℕ) → IsSegmentFace at A q → IsSegmentFace at B q
segment_told at A B same q f =
    record {
      i = f.i;
      j = f.j;
      members = λ l. (λ h. (same l).0 ((f.members l).0 h), λ h. (f.members l).1 ((same l).1 h));
      lower = f.lower;
      is = f.is;
    }

-- a single id is extreme
pub alone_is_extreme : (at : ℕ → Vector) (A : ℕ → Type 0) → ¬ (HasSegment A) → (i : ℕ) → A i → Extreme at A i
alone_is_extreme at A n i h = (h, λ m. n (record { i = m.a; j = i; has_i = m.has_a.0; has_j = h; differ = m.has_a.1 }))

module _ (at : ℕ → Vector) (ids : List ℕ) (d : HasDistinctPoints at (Members ids)) where
  -- the set
  abbrev A : ℕ → Type 0
  A = Members ids

  -- the extreme ids of the set
  abbrev E : ℕ → Type 0
  E = Extreme at A

  -- the extreme ids of the extreme ids are these
  pub extremes_again : (i : ℕ) → Extreme at E i ↔ E i
  extremes_again = extremes_between at A E ids (listed_itself ids) d (λ i h. h.0) (λ i h. h)

  -- the same in both directions
  own_extremes : (i : ℕ) → E i ↔ Extreme at E i
  own_extremes i = ((extremes_again i).1, (extremes_again i).0)

  -- ---- supporting triples
  -- a triple that supports the extremes supports the set
  triple_up : (i j k : ℕ) → IsSupportingTriple at E i j k → IsSupportingTriple at A i j k
  triple_up = grind (arith, support_of_extremes)

  -- extremes that span a plane of the set are a supporting triple of the extremes
  triple_down : {i j k : ℕ} (s : SpannedByExtremes at A i j k) → IsSupportingTriple at E s.u s.v s.w
  triple_down s = record { has_i = s.has_u; has_j = s.has_v; has_k = s.has_w; area = s.area; supports = λ l h. s.supports l h.0 }

  -- ---- dimension 3
  -- the plane of a triple of the set has the extremes of the triple that spans it
  face_members : {i j k : ℕ} (s : SpannedByExtremes at A i j k) (l : ℕ) → OnPlane at E i j k l ↔ OnPlane at (Extreme at E) s.u s.v s.w l
  face_members s l = (λ h. ((extremes_again l).1 h.0, (s.same l).0 h.1), λ h. ((extremes_again l).0 h.0, (s.same l).1 h.1))

  -- so both have the same polygon
  face_down : (i j k : ℕ) (s : SpannedByExtremes at A i j k) (q : List ℕ) → IsFacePolygon at A i j k q → IsFacePolygon at E s.u s.v s.w q
  face_down i j k s q =
      polygon_as at (OnPlane at E i j k) (OnPlane at (Extreme at E) s.u s.v s.w) (cross (at i) (at j) (at k)) (cross (at s.u) (at s.v) (at s.w)) q
      (face_members s) s.along

  -- the converse
  face_up : (i j k : ℕ) (s : SpannedByExtremes at A i j k) (q : List ℕ) → IsFacePolygon at E s.u s.v s.w q → IsFacePolygon at A i j k q
  face_up i j k s q =
      polygon_as at (OnPlane at (Extreme at E) s.u s.v s.w) (OnPlane at E i j k) (cross (at s.u) (at s.v) (at s.w)) (cross (at i) (at j) (at k)) q
      (λ l. ((face_members s l).1, (face_members s l).0)) (along_back _ _ s.along)

  -- the polygon of an extreme triple, over the set and over the extremes
  face_same : (i j k : ℕ) (q : List ℕ) → IsFacePolygon at E i j k q ↔ IsFacePolygon at A i j k q
  face_same i j k q = (
    polygon_as at (OnPlane at (Extreme at E) i j k) (OnPlane at E i j k) n n q
        (λ l. (λ h. ((extremes_again l).0 h.0, h.1), λ h. ((extremes_again l).1 h.0, h.1))) (along_itself n),
    polygon_as at (OnPlane at E i j k) (OnPlane at (Extreme at E) i j k) n n q
        (λ l. (λ h. ((extremes_again l).1 h.0, h.1), λ h. ((extremes_again l).0 h.0, h.1))) (along_itself n),
  )
    where
      n : Vector
      n = cross (at i) (at j) (at k)

  -- the polygons of the set are those of the extremes
  faces_down : (qs : List (List ℕ)) → AreFaces at A qs → AreFaces at E qs
  faces_down qs f = record {
    rising = f.rising;
    each = λ i j k t. let r = f.each i j k (triple_up i j k t) in (r.0, r.1, (face_same i j k r.0).1 r.2);
    only = λ q m. let (i, j, k, t, p) = f.only q m in let s = planes_of_extremes at ids d i j k t in
        (s.u, s.v, s.w, triple_down s, face_down i j k s q p);
  }

  -- the converse
  faces_up : (qs : List (List ℕ)) → AreFaces at E qs → AreFaces at A qs
  faces_up qs f = record {
    rising = f.rising;
    each = λ i j k t. let s = planes_of_extremes at ids d i j k t in let r = f.each s.u s.v s.w (triple_down s) in (r.0, r.1, face_up i j k s r.0 r.2);
    only = λ q m. let (i, j, k, t, p) = f.only q m in (i, j, k, triple_up i j k t, (face_same i j k q).0 p);
  }

  -- ---- dimension 2
  -- the flat polygon of the extremes is that of the set
  flat_up : (q : List ℕ) → IsFlatFace at E q → IsFlatFace at A q
  flat_up q f = record {
    i = f.i;
    j = f.j;
    k = f.k;
    has_i = f.has_i.0;
    has_j = f.has_j.0;
    has_k = f.has_k.0;
    forward = f.forward;
    polygon = polygon_as at (Extreme at E) E n n q extremes_again (along_itself n) f.polygon;
  }
    where
      n : Vector
      n = cross (at f.i) (at f.j) (at f.k)

  -- the polygon of the set is that of the extremes, some triangle of which has its direction
  flat_down : ¬ (HasTetrahedron at A) → (q : List ℕ) → IsFlatFace at A q → IsFlatFace at E q
  flat_down none q f =
      ⊎_elim (λ h. by_triangle t.i t.j t.k t.has_i t.has_j t.has_k h) (λ h. by_triangle t.i t.k t.j t.has_i t.has_k t.has_j h)
      (flat_normals at A none f.i f.j f.k t.i t.j t.k f.has_i f.has_j f.has_k t.has_i.0 t.has_j.0 t.has_k.0 (forward_not_zero n f.forward) t.area)
    where
      n : Vector
      n = cross (at f.i) (at f.j) (at f.k)

      t : HasTriangle at E
      t = triangle_of at A E (combination_of_extremes at A ids (listed_itself ids) d)
          (record { i = f.i; j = f.j; k = f.k; has_i = f.has_i; has_j = f.has_j; has_k = f.has_k; area = forward_not_zero n f.forward })

      by_triangle : (i j k : ℕ) → E i → E j → E k → IsAlong n (cross (at i) (at j) (at k)) → IsFlatFace at E q
      by_triangle i j k hi hj hk h = record {
        i = i;
        j = j;
        k = k;
        has_i = hi;
        has_j = hj;
        has_k = hk;
        forward = forward_along _ _ h f.forward;
        polygon = polygon_as at E (Extreme at E) n (cross (at i) (at j) (at k)) q own_extremes h f.polygon;
      }

-- ---- the laws
-- proof of the law `TriplesOfExtremes`
pub triples_of_extremes : TriplesOfExtremes
triples_of_extremes at ids d i j k hi hj hk =
    (triple_up at ids d i j k, λ t. record { has_i = hi; has_j = hj; has_k = hk; area = t.area; supports = λ l h. t.supports l h.0 })

-- proof of the law `PolygonsOfExtremes`
pub polygons_of_extremes : PolygonsOfExtremes
polygons_of_extremes at ids k qs d dim = (up, down)
  where
    up : ArePolygons at (Extreme at (Members ids)) k qs → ArePolygons at (Members ids) k qs
    up (inl (e, f)) = inl (e, faces_up at ids d qs f)
    up (inr (inl (e, (q, f, g)))) = inr (inl (e, (q, flat_up at ids d q f, g)))
    up (inr (inr (inl (e, (q, f, g))))) =
        inr (inr (inl (e, (q, segment_told at (Extreme at (Members ids)) (Members ids) (extremes_again at ids d) q f, g))))
    up (inr (inr (inr (e, (q, f, g))))) = inr (inr (inr (e, (q, record { i = f.i; has_i = f.has_i.0; is = f.is }, g))))

    down : ArePolygons at (Members ids) k qs → ArePolygons at (Extreme at (Members ids)) k qs
    down (inl (e, f)) = inl (e, faces_down at ids d qs f)
    down (inr (inl (e, (q, f, g)))) = inr (inl (e, (q, flat_down at ids d (flat_of at (Members ids) k e dim) q f, g)))
    down (inr (inr (inl (e, (q, f, g))))) =
        inr (inr (inl (e, (q, segment_told at (Members ids) (Extreme at (Members ids)) (own_extremes at ids d) q f, g))))
    down (inr (inr (inr (e, (q, f, g))))) =
        let h = alone_is_extreme at (Members ids) (alone_of at (Members ids) k e dim) f.i f.has_i in
        inr (inr (inr (e, (q, record { i = f.i; has_i = h; is = f.is }, g))))

-- proof of the law `BodyOfExtremes`
pub body_of_extremes : BodyOfExtremes
body_of_extremes at ids b d = (
  λ f. let dim = (dimension_of_extremes at ids b.dim d).0 f.dim in
      record {
        dim = dim;
        extremes = extremes_told at (Extreme at (Members ids)) (Members ids) (extremes_again at ids d) b.extremes f.extremes;
        polygons = (polygons_of_extremes at ids b.dim b.polygons d dim).0 f.polygons;
        edges = f.edges;
      },
  λ f. record {
    dim = (dimension_of_extremes at ids b.dim d).1 f.dim;
    extremes = extremes_told at (Members ids) (Extreme at (Members ids)) (own_extremes at ids d) b.extremes f.extremes;
    polygons = (polygons_of_extremes at ids b.dim b.polygons d f.dim).1 f.polygons;
    edges = f.edges;
  },
)
