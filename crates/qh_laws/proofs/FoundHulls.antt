-- Each list of points that is not empty has a hull and a text.
use Rattle.qh_model.proofs.Common.{◌≡◌, ℕ, ◌<◌, List, [], ◌∷◌, length, refl, inl, inr, IsStrictlyIncreasing, HasDistinctPoints, IsDimension, AreDistinctIds}
use Rattle.qh_model.proofs.Common.{edge_count, BodyValue, HullValue, IsBody, IsHull, ArePolygons, place, Members, hull_text, Vector}
use Rattle.qh_model.proofs.{DistinctIds.some_id, DistinctIds.distinct_apart, polygons.EdgeCounts.edges_are_counted}
use Rattle.qh_laws.specs.laws.ExistenceLaws.{EveryListHasAHull, EveryListHasAText}
use Rattle.qh_laws.proofs.{FoundDimensions.dimension_of, FoundFaces.faces_found}
use Rattle.qh_laws.proofs.{FoundFlats.flat_found, FoundFlats.segment_found, FoundFlats.point_found, FoundIds.distinct_ids_of, FoundIds.extremes_of}

-- ids of distinct points have polygons
pub polygons_found : (at : ℕ → Vector) (ids : List ℕ) → HasDistinctPoints at (Members ids) → 0 < length ids
    → (k : ℕ) → IsDimension at (Members ids) k → (qs : List (List ℕ)) × ArePolygons at (Members ids) k qs
polygons_found at ids d some k (inl (e, t)) = let f = faces_found at ids d in (f.0, inl (e, f.1))
polygons_found at ids d some k (inr (inl (e, t, n))) =
    let f = flat_found at ids d n t in (f.0 ∷ [], inr (inl (e, (f.0, f.1, refl))))
polygons_found at ids d some k (inr (inr (inl (e, s, n)))) =
    let f = segment_found at ids d n s in (f.0 ∷ [], inr (inr (inl (e, (f.0, f.1, refl)))))
polygons_found at ids d some k (inr (inr (inr (e, n)))) =
    let f = point_found ids some in (f.0 ∷ [], inr (inr (inr (e, (f.0, f.1, refl)))))

-- a body of the ids, of dimension k
pub record BodyOf (at : ℕ → Vector) (ids : List ℕ) (k : ℕ) : Type 0 where
  pub body : BodyValue
  pub right : IsBody at (Members ids) body
  pub dim : body.dim ≡ k

-- rising ids of distinct points have a body of their dimension
pub body_found : (at : ℕ → Vector) (ids : List ℕ) → IsStrictlyIncreasing ids → HasDistinctPoints at (Members ids) → 0 < length ids
    → (k : ℕ) → IsDimension at (Members ids) k → BodyOf at ids k
body_found at ids r d some k h =
    let es = extremes_of at ids r in
    let qs = polygons_found at ids d some k h in
    record {
      body = record { dim = k; extremes = es.0; polygons = qs.0; edges = edge_count qs.0 };
      right = record { dim = h; extremes = es.1; polygons = qs.1; edges = edges_are_counted qs.0 };
      dim = refl;
    }

-- a hull of the points with the numbers of rank_text: of points, of ids, and the dimension
pub record HullOf (pts : List Vector) (ids : List ℕ) (k : ℕ) : Type 0 where
  pub hull : HullValue
  pub right : IsHull pts hull
  pub given : hull.given ≡ length pts
  pub distinct : hull.distinct ≡ length ids
  pub dim : hull.body.dim ≡ k

-- the distinct ids and their dimension are those of a hull, so they determine the text of the rank
pub rank_is_text : (pts : List Vector) (ids : List ℕ) (k : ℕ) → AreDistinctIds pts ids → 0 < length pts
    → IsDimension (place pts) (Members ids) k → HullOf pts ids k
rank_is_text pts ids k a some h =
    let b = body_found (place pts) ids a.rising (distinct_apart pts ids a) (some_id pts ids a some) k h in
    record {
      hull = record { given = length pts; distinct = length ids; body = b.body };
      right = record { ids = ids; distinct_ids = a; given = refl; distinct = refl; body = b.right };
      given = refl;
      distinct = refl;
      dim = b.dim;
    }

-- the law of hulls
pub every_list_has_a_hull : EveryListHasAHull
every_list_has_a_hull pts some =
    let ids = distinct_ids_of pts in
    let k = dimension_of (place pts) ids.0 in
    let h = rank_is_text pts ids.0 k.0 ids.1 some k.1 in
    (h.hull, h.right)

-- the law of texts
pub every_list_has_a_text : EveryListHasAText
every_list_has_a_text pts outs some =
    let h = every_list_has_a_hull pts some in
    (hull_text h.0 pts outs, record { hull = h.0; right = h.1; is = refl })
