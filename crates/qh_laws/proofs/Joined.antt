-- Faces of parts and of the kept ids that close up are the faces of the whole set.
use Rattle.qh_laws.proofs.Parts.{polygon_of_same, staying_has_polygon, staying_supports}
use Rattle.qh_laws.specs.contract.Parts.{AreJoined, AreKept, IsPartFace}
use Rattle.qh_laws.specs.laws.PartLaws.{FacesOfKept, JoinedAreFaces, JoinedHaveExtremes, PartIsSolid}
use Rattle.qh_model.proofs.Common.{AreClosedFaces, Extreme, HasDistinctPoints, IsFace, List, Members, Vector, inl, inr, refl, ℕ, ◌↔◌, ◌⊎◌}
use Rattle.qh_model.proofs.extremes.{ExtremeIds.extremes_between, ExtremeIds.listed_itself, Faces.support_of_extremes, SameDimension.tetrahedron_by_names}
use Rattle.qh_model.proofs.{polygons.ClosedFaces.closed_faces_are_all, polygons.ClosedFaces.closed_faces_have_extremes, surfaces.Complete.finished_tetrahedron}

-- the polygon of a part is a face
part_face : (at : ℕ → Vector) (all kept : List ℕ) (q : List ℕ) → HasDistinctPoints at (Members all) → AreKept at all kept
    → IsPartFace at all kept q → IsFace at (Members all) q
part_face at all kept q d k p = (
  p.m.i p.f,
  p.m.j p.f,
  p.m.k p.f,
  staying_supports at all kept p.ids p.m p.stay d k p.part p.f p.live p.stays,
  (staying_has_polygon at all kept p.ids p.m p.stay d k p.part p.f p.live p.stays p.clear q).0 p.polygon,
)

-- proof of the law `FacesOfKept`
pub faces_of_kept : FacesOfKept
faces_of_kept at all kept d k q (i, j, l, t, p) = (
  i,
  j,
  l,
  record {
    has_i = k.inside i t.has_i;
    has_j = k.inside j t.has_j;
    has_k = k.inside l t.has_k;
    area = t.area;
    supports = support_of_extremes at all d i j l (λ h x. t.supports h (k.extremes h x));
  },
  polygon_of_same at (Members kept) (Members all) i j l (λ h x. ((same h).0 x.0, x.1)) (λ h x. ((same h).1 x.0, x.1)) q p,
)
  where
    same : (h : ℕ) → Extreme at (Members kept) h ↔ Extreme at (Members all) h
    same = extremes_between at (Members all) (Members kept) all (listed_itself all) d k.inside k.extremes

-- each joined face is a face of the whole set
pub closed_faces : (at : ℕ → Vector) (all kept : List ℕ) (qs : List (List ℕ)) → HasDistinctPoints at (Members all) → AreKept at all kept
    → AreJoined at all kept qs → AreClosedFaces at (Members all) qs
closed_faces at all kept qs d k j = record { some = j.some; there = j.there; faces = λ q i. face q (j.each q i); closed = j.closed }
  where
    face : (q : List ℕ) → IsPartFace at all kept q ⊎ IsFace at (Members kept) q → IsFace at (Members all) q
    face q (inl p) = part_face at all kept q d k p
    face q (inr h) = faces_of_kept at all kept d k q h

-- proof of the law `JoinedAreFaces`
pub joined_are_faces : JoinedAreFaces
joined_are_faces at all kept qs d k j rising = closed_faces_are_all at all qs d (closed_faces at all kept qs d k j) rising

-- proof of the law `JoinedHaveExtremes`
pub joined_have_extremes : JoinedHaveExtremes
joined_have_extremes at all kept qs d k j l = closed_faces_have_extremes at all qs d (closed_faces at all kept qs d k j) l

-- proof of the law `PartIsSolid`
pub part_is_solid : PartIsSolid
part_is_solid at all ids m z sub = inl (refl, tetrahedron_by_names (λ i. i) sub (λ i h. refl) (finished_tetrahedron at ids m z))
