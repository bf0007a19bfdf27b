-- Sharp polygons that close up are the faces of a solid.
use Rattle.qh_model.proofs.Common.{◌≡◌, ℕ, refl, sym, List, [], ◌∷◌, inl, inr, pos, IsFace, Triple, IsClosedSurface, HasDistinctPoints, IsDimension, Extreme}
use Rattle.qh_model.proofs.Common.{Follows, IsFacePolygon, vol, In, Members, IsSupportingTriple, Vector, AreSupporting}
use Rattle.qh_model.specs.laws.ClosedFaceLaws.{TriangleOfPlane}
use Rattle.qh_model.proofs.{algebra.Signs.less_differ, polygons.ClosedFaces.closed_faces_are_all, polygons.Edges.seen_from}
use Rattle.qh_model.proofs.{closed_surfaces.Supporting.closed_miss_no_plane, closed_surfaces.Supporting.closed_miss_no_extreme, polygons.Neighbours.next_member}
use Rattle.qh_laws.specs.contract.LocallyConvex.{IsRound, IsSharpEdge, ArePolygonsOf, IsLocallyConvex, HasAllUnder}
use Rattle.qh_laws.specs.laws.ConvexLaws.{SharpPolygonsAreFaces, SharpIsSolid, TrianglePolygonsAreFaces, TrianglePolygonsHaveExtremes}
use Rattle.qh_laws.proofs.{Convex.local_supports, Cycles.third_member, PolygonFaces.sharp_polygon_is_face}

-- the law of faces
pub sharp_polygons_are_faces : SharpPolygonsAreFaces
sharp_polygons_are_faces at ids ts z d c all distinct qs q there sharp closed rising =
    closed_faces_are_all at ids qs distinct (record { some = q; there = there; faces = face; closed = closed }) rising
  where
    face : (p : List ℕ) → In p qs → IsFace at (Members ids) p
    face p m = let s = sharp p m in
        (s.0.i, s.0.j, s.0.k, (local_supports at ids ts z d c all).1 s.0 s.1, sharp_polygon_is_face at ids ts z d c all distinct s.0 s.1 p s.2)

-- ---- polygons of the triangles
module _ (at : ℕ → Vector) (ids : List ℕ) (ts : List Triple) (z d : Vector) (c : IsLocallyConvex at ts z d) (all : HasAllUnder at ids ts z)
    (distinct : HasDistinctPoints at (Members ids)) (qs : List (List ℕ)) (p : ArePolygonsOf at ts qs) where
  supporting : IsClosedSurface at ts × AreSupporting at (Members ids) ts
  supporting = local_supports at ids ts z d c all

  -- each polygon is a face
  face : (q : List ℕ) → In q qs → IsFace at (Members ids) q
  face q m = let s = p.sharp q m in
      (s.0.i, s.0.j, s.0.k, supporting.1 s.0 s.1, sharp_polygon_is_face at ids ts z d c all distinct s.0 s.1 q s.2)

  -- the polygon of a triangle's plane
  own_face : (t : Triple) → In t ts → (q : List ℕ) × In q qs × IsFacePolygon at (Members ids) t.i t.j t.k q
  own_face t i = let s = p.each t i in (s.0, s.1, sharp_polygon_is_face at ids ts z d c all distinct t i s.0 s.2)

  -- each supporting plane has its polygon in the list
  each : (i j k : ℕ) → IsSupportingTriple at (Members ids) i j k → (q : List ℕ) × In q qs × IsFacePolygon at (Members ids) i j k q
  each i j k plane = go (closed_miss_no_plane at ids ts supporting.0 supporting.1 i j k plane)
    where
      go : TriangleOfPlane at ts i j k → (q : List ℕ) × In q qs × IsFacePolygon at (Members ids) i j k q
      go s =
          let f = own_face s.t s.there in
          (f.0, f.1, seen_from at (Members ids) s.t.i s.t.j s.t.k i j k f.0 f.2 s.along s.level)

  -- each extreme id is a corner
  there : (l : ℕ) → Extreme at (Members ids) l → (q : List ℕ) × In q qs × In l q
  there l e = go (closed_miss_no_extreme at ids ts supporting.0 supporting.1 l e)
    where
      go : (t : Triple) × In t ts × (vol (at t.i) (at t.j) (at t.k) (at l) ≡ pos 0) → (q : List ℕ) × In q qs × In l q
      go (t, i, level) = let f = own_face t i in (f.0, f.1, (f.2.members l).1 (e, level))

  -- the converse
  back : (l : ℕ) → (q : List ℕ) × In q qs × In l q → Extreme at (Members ids) l
  back l (q, m, i) = let f = face q m in ((f.4.members l).0 i).0

-- the law of the faces of all triangles
pub triangle_polygons_are_faces : TrianglePolygonsAreFaces
triangle_polygons_are_faces at ids ts z d c all distinct qs p rising =
    record { rising = rising; each = each at ids ts z d c all distinct qs p; only = face at ids ts z d c all distinct qs p }

-- the law of extreme ids
pub triangle_polygons_have_extremes : TrianglePolygonsHaveExtremes
triangle_polygons_have_extremes at ids ts z d c all distinct qs p l = (there at ids ts z d c all distinct qs p l, back at ids ts z d c all distinct qs p l)

-- the law of solids
pub sharp_is_solid : SharpIsSolid
sharp_is_solid at ids ts corners t q p = let w = third_member q p.three p.once 0 0 in from w.0 (next_member w.0 q w.1)
  where
    from : (u : ℕ) → (v : ℕ) × Follows u v q → IsDimension at (Members ids) 3
    from u (v, f) = inl (
      refl,
      record {
        i = e.side.i;
        j = e.side.j;
        k = e.side.k;
        l = e.over.third;
        has_i = corners e.side.i (e.side, e.there, inl refl);
        has_j = corners e.side.j (e.side, e.there, inr (inl refl));
        has_k = corners e.side.k (e.side, e.there, inr (inr (inl refl)));
        has_l = corners e.over.third (e.over.next, e.over.there, last e.over.next e.over.round);
        volume = less_differ _ _ e.below;
      },
    )
      where
        e : IsSharpEdge at ts t u v
        e = p.edges u v f

        last : (s : Triple) → IsRound s v u e.over.third → In e.over.third (s.i ∷ s.j ∷ s.k ∷ [])
        last s (inl r) = inr (inr (inl (sym r.2)))
        last s (inr (inl r)) = inl (sym r.2)
        last s (inr (inr r)) = inr (inl (sym r.2))
