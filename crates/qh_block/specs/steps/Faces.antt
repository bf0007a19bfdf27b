-- The faces of a solid, gathered plane by plane from the facets of its finished mesh.
use Rattle.{qh_bodies.specs.contract.ApartPolygons.AreApart, qh_mesh.specs.contract.Replacement.IsLive}
use Rattle.qh_model.specs.contract.StoredSurface.{StoredFacet, facet_at, surface_of}
use Rattle.qh_model.specs.{contract.Surface.IsCorner, headline.Polygons.IsFacePolygon, headline.Sets.In, headline.Vector.Vector, laws.FacetPlanes.IsLevelFacet}
use Rattle.{qh_surface.specs.contract.Walks.mark_at, std.specs.List.flat_map}
use Rattle.std.specs.Prelude.{◌≡◌, ◌⊎◌, ℕ, List, [], ◌∷◌, Bool, true, nat_lt, ◌&&◌, if◌then◌else◌}

-- the corners of a facet, and of the listed facets in order
abbrev pub three_of : List StoredFacet → ℕ → List ℕ
three_of fs v = (facet_at fs v).i ∷ (facet_at fs v).j ∷ (facet_at fs v).k ∷ []

abbrev pub corners_of : List StoredFacet → List ℕ → List ℕ
corners_of fs vs = flat_map (three_of fs) vs

-- three ids in cyclic order, beginning with the least
abbrev pub from_least : ℕ → ℕ → ℕ → List ℕ
from_least i j k =
    if nat_lt i j && nat_lt i k then i ∷ j ∷ k ∷ []
    else if nat_lt j k then j ∷ k ∷ i ∷ []
    else k ∷ i ∷ j ∷ []

-- l is a corner of a listed facet
abbrev pub IsListedCorner : List StoredFacet → List ℕ → ℕ → Type 0
IsListedCorner fs vs l = (g : ℕ) × In g vs × IsCorner (surface_of fs) g l

-- q is the polygon of the plane of facet f
abbrev pub IsFacetPolygon : (ℕ → Vector) → (ℕ → Type 0) → List StoredFacet → ℕ → List ℕ → Type 0
IsFacetPolygon at A fs f q = IsFacePolygon at A (facet_at fs f).i (facet_at fs f).j (facet_at fs f).k q

-- the live facets in the plane of facet f, and no others, were marked; q is the polygon of the plane
pub record IsNewFace (at : ℕ → Vector) (A : ℕ → Type 0) (fs : List StoredFacet) (f : ℕ) (before after : List Bool) (q : List ℕ)
    : Type 0 where
  pub kept : (g : ℕ) → mark_at before g ≡ true → mark_at after g ≡ true
  pub marked : (g : ℕ) → IsLive fs g → IsLevelFacet at (surface_of fs) f g → mark_at after g ≡ true
  pub only : (g : ℕ) → mark_at after g ≡ true → (mark_at before g ≡ true) ⊎ (IsLive fs g × IsLevelFacet at (surface_of fs) f g)
  pub polygon : IsFacetPolygon at A fs f q

-- no marked live facet is in the plane of facet f
abbrev pub IsNewPlane : (ℕ → Vector) → List StoredFacet → List Bool → ℕ → Type 0
IsNewPlane at fs marks f = (g : ℕ) → IsLive fs g → mark_at marks g ≡ true → ¬ (IsLevelFacet at (surface_of fs) f g)

-- the polygons of the planes of the marked facets, each plane once
pub record AreMarkedFaces (at : ℕ → Vector) (A : ℕ → Type 0) (fs : List StoredFacet) (marks : List Bool) (qs : List (List ℕ)) : Type 0 where
  pub each : (f : ℕ) → IsLive fs f → mark_at marks f ≡ true → (q : List ℕ) × In q qs × IsFacetPolygon at A fs f q
  pub only : (q : List ℕ) → In q qs → (f : ℕ) × IsLive fs f × (mark_at marks f ≡ true) × IsFacetPolygon at A fs f q
  pub whole : (f g : ℕ) → IsLive fs f → IsLive fs g → mark_at marks f ≡ true → IsLevelFacet at (surface_of fs) f g → mark_at marks g ≡ true
  pub apart : AreApart qs

-- the polygons of the planes of all live facets, each plane once
pub record AreFacetFaces (at : ℕ → Vector) (A : ℕ → Type 0) (fs : List StoredFacet) (qs : List (List ℕ)) : Type 0 where
  pub each : (f : ℕ) → IsLive fs f → (q : List ℕ) × In q qs × IsFacetPolygon at A fs f q
  pub only : (q : List ℕ) → In q qs → (f : ℕ) × IsLive fs f × IsFacetPolygon at A fs f q
  pub apart : AreApart qs
