-- A finished surface determines the hull: its dimension, its extreme ids and its polygons.
use Rattle.qh_model.proofs.Common.{◌≡◌, ℕ, refl, inl, List, pos, ◌↔◌, IsFinished, Surface, HasTetrahedron, Extreme, IsFacePolygon, cross, vol, In, Members}
use Rattle.qh_model.proofs.Common.{OnPlane, Vector, CornerInPlane, IsLiveCorner, arith}
use Rattle.qh_model.specs.laws.CompletenessLaws.{FacetOfPlane, FinishedIsSolid, ExtremesOfCorners, ExtremesOfPlane, PolygonsOfFacets}
use Rattle.qh_model.proofs.{algebra.Order.zero_or_not, extremes.Directions.along_back, extremes.Faces.extremes_of_face, polygons.Direction.polygon_as}
use Rattle.qh_model.proofs.extremes.ExtremeIds.{Listed, listed_itself, listed_part, extremes_between}
use Rattle.qh_model.proofs.surfaces.Finished.{extremes_are_corners, extremes_of_plane_are_corners, facets_support, planes_have_facets}

-- the four ids of the middle are a tetrahedron
pub finished_tetrahedron : (at : ℕ → Vector) (ids : List ℕ) (m : Surface) → IsFinished at ids m → HasTetrahedron at (Members ids)
finished_tetrahedron = grind arith

-- proof of the law `FinishedIsSolid`
pub finished_is_solid : FinishedIsSolid
finished_is_solid at ids m z = inl (refl, finished_tetrahedron at ids m z)

-- proof of the law `ExtremesOfCorners`
pub extremes_of_corners : ExtremesOfCorners
extremes_of_corners at ids m d z =
    extremes_between at (Members ids) (IsLiveCorner m) ids (listed_itself ids) d (λ l c. z.corners c.0 c.1 l c.2) (extremes_are_corners at ids m z)

-- proof of the law `ExtremesOfPlane`
pub extremes_of_plane : ExtremesOfPlane
extremes_of_plane at ids m d z i j k t l = (λ x. (on_plane l).0 ((same l).0 x), λ x. (same l).1 ((on_plane l).1 x))
  where
    F : ℕ → Type 0
    F = OnPlane at (Members ids) i j k

    level : ℕ → Type 0
    level h = vol (at i) (at j) (at k) (at h) ≡ pos 0

    listed : (ys : List ℕ) × Listed F ys
    listed = listed_part (Members ids) level (λ h. zero_or_not (vol (at i) (at j) (at k) (at h))) ids (listed_itself ids)

    on_plane : (h : ℕ) → Extreme at F h ↔ OnPlane at (Extreme at (Members ids)) i j k h
    on_plane = extremes_of_face at ids i j k t.supports

    same : (h : ℕ) → Extreme at (CornerInPlane at m i j k) h ↔ Extreme at F h
    same =
        extremes_between at F (CornerInPlane at m i j k) listed.0 listed.1 (λ x y fx fy e. d x y fx.0 fy.0 e)
        (λ h c. (z.corners c.f c.live h c.corner, c.level h c.corner)) (λ h x. extremes_of_plane_are_corners at ids m z i j k t h ((on_plane h).0 x))

-- proof of the law `PolygonsOfFacets`
pub polygons_of_facets : PolygonsOfFacets
polygons_of_facets at ids m qs z rising each only = record {
  rising = rising;
  each = λ i j k t. has i j k (planes_have_facets at ids m z i j k t);
  only = λ q i. let f = only q i in (m.i f.0, m.j f.0, m.k f.0, facets_support at ids m z f.0 f.1, f.2);
}
  where
    has : (i j k : ℕ) → FacetOfPlane at m i j k → (q : List ℕ) × In q qs × IsFacePolygon at (Members ids) i j k q
    has i j k p = let r = each p.f p.live in (
      r.0,
      r.1,
      polygon_as at (OnPlane at (Extreme at (Members ids)) (m.i p.f) (m.j p.f) (m.k p.f)) (OnPlane at (Extreme at (Members ids)) i j k)
          (cross (at (m.i p.f)) (at (m.j p.f)) (at (m.k p.f))) (cross (at i) (at j) (at k)) r.0
          (λ l. (λ h. (h.0, (p.same l).1 h.1), λ h. (h.0, (p.same l).0 h.1))) (along_back _ _ p.along) r.2,
    )
