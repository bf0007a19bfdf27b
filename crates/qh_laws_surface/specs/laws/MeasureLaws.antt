-- Laws of surfaces in pieces: the pieces have the same measures as the faces.
-- This project's own.
use Rattle.std.specs.Prelude.{ℕ, ◌≡◌, List, filter}
use Rattle.qh_model.specs.{contract.IdSets.HasDistinctPoints, headline.Vector.Vector, headline.Sets.Members, headline.Dimension.IsDimension}
use Rattle.qh_model.specs.headline.{SupportingPlane.IsSupportingTriple, Polygons.AreFaces, Polygons.IsFacePolygon}
use Rattle.qh_check.specs.contract.Surfaces.{IsHullSurface}
use Rattle.qh_laws_surface.specs.contract.Measures.{lies_in, doubled_area, doubled_areas, cone_volumes}

-- the areas of the pieces in the plane of a face add up to the area of the face
abbrev pub AreasAddUp : Type 0
AreasAddUp = (at : ℕ → Vector) (ids : List ℕ) (qs : List (List ℕ)) → HasDistinctPoints at (Members ids)
    → IsDimension at (Members ids) 3 → IsHullSurface at (Members ids) qs
    → (i j k : ℕ) (face : List ℕ) → IsSupportingTriple at (Members ids) i j k → IsFacePolygon at (Members ids) i j k face
    → doubled_areas at (filter (lies_in at i j k) qs) ≡ doubled_area at face

-- the pieces and the faces have the same cone volume from each point, so the surface encloses the volume of the hull
abbrev pub VolumesAddUp : Type 0
VolumesAddUp = (at : ℕ → Vector) (ids : List ℕ) (qs faces : List (List ℕ)) → HasDistinctPoints at (Members ids)
    → IsDimension at (Members ids) 3 → IsHullSurface at (Members ids) qs → AreFaces at (Members ids) faces
    → (o : Vector) → cone_volumes at o qs ≡ cone_volumes at o faces
