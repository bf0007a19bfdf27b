-- Faces in the planes of marked facets of a mesh.
-- This project's own.
use Rattle.std.specs.Prelude.{ℕ, ◌≡◌, Bool, List}
use Rattle.qh_model.specs.headline.{Vector.Vector, Sets.In, Polygons.IsFacePolygon}
use Rattle.qh_model.specs.contract.StoredSurface.{StoredFacet, facet_at}
use Rattle.qh_mesh.specs.contract.Replacement.{IsLive}
use Rattle.qh_surface.specs.contract.Walks.{mark_at}

-- each polygon is the face of the plane of a live facet with this mark
abbrev pub AreFacesOfMarked : (ℕ → Vector) → (ℕ → Type 0) → List StoredFacet → List Bool → Bool → List (List ℕ) → Type 0
AreFacesOfMarked at A fs marks mark qs = (q : List ℕ) → In q qs
    → (f : ℕ) × IsLive fs f × (mark_at marks f ≡ mark) × IsFacePolygon at A (facet_at fs f).i (facet_at fs f).j (facet_at fs f).k q
