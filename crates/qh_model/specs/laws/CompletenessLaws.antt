-- Laws of finished surfaces: their facets support the set, and include all extreme ids and all supporting planes. So they determine the polygons.
use Rattle.std.specs.Prelude.{ℕ, ◌≡◌, ◌↔◌, List, pos}
use Rattle.qh_model.specs.contract.{IdSets.HasDistinctPoints, Surface.Surface, Surface.IsCorner, FinishedSurface.IsFinished}
use Rattle.qh_model.specs.headline.{Vector.Vector, Predicates.cross, Predicates.vol, Sets.In, Sets.Members, Dimension.IsDimension, Extreme.Extreme}
use Rattle.qh_model.specs.headline.SupportingPlane.{IsSupportingTriple, OnPlane}
use Rattle.qh_model.specs.{headline.Polygons.RiseStrictly, headline.Polygons.IsFacePolygon, headline.Polygons.AreFaces, laws.FaceLaws.IsAlong}

-- the corners of each live facet are a supporting triple
abbrev pub FacetsSupport : Type 0
FacetsSupport = (at : ℕ → Vector) (ids : List ℕ) (m : Surface) → IsFinished at ids m → (f : ℕ) → In f m.live
    → IsSupportingTriple at (Members ids) (m.i f) (m.j f) (m.k f)

-- l is a corner of a live facet
abbrev pub IsLiveCorner : Surface → ℕ → Type 0
IsLiveCorner m l = (f : ℕ) × In f m.live × IsCorner m f l

-- each extreme id is a corner of a live facet
abbrev pub ExtremesAreCorners : Type 0
ExtremesAreCorners = (at : ℕ → Vector) (ids : List ℕ) (m : Surface) → IsFinished at ids m → (l : ℕ) → Extreme at (Members ids) l → IsLiveCorner m l

-- a live facet with its corners in the plane of i, j, k, and the id l among them
pub record CornerInPlane (at : ℕ → Vector) (m : Surface) (i j k l : ℕ) : Type 0 where
  pub f : ℕ
  pub live : In f m.live
  pub level : (h : ℕ) → IsCorner m f h → vol (at i) (at j) (at k) (at h) ≡ pos 0
  pub corner : IsCorner m f l

-- each extreme id of a supporting plane is a corner of a live facet in that plane
abbrev pub ExtremesOfPlaneAreCorners : Type 0
ExtremesOfPlaneAreCorners = (at : ℕ → Vector) (ids : List ℕ) (m : Surface) → IsFinished at ids m → (i j k : ℕ) → IsSupportingTriple at (Members ids) i j k
    → (l : ℕ) → OnPlane at (Extreme at (Members ids)) i j k l → CornerInPlane at m i j k l

-- a live facet that spans the plane of i, j, k, with the same side outside
pub record FacetOfPlane (at : ℕ → Vector) (m : Surface) (i j k : ℕ) : Type 0 where
  pub f : ℕ
  pub live : In f m.live
  pub along : IsAlong (cross (at i) (at j) (at k)) (cross (at (m.i f)) (at (m.j f)) (at (m.k f)))
  pub same : (l : ℕ) → (vol (at i) (at j) (at k) (at l) ≡ pos 0) ↔ (vol (at (m.i f)) (at (m.j f)) (at (m.k f)) (at l) ≡ pos 0)

-- each supporting plane is that of a live facet
abbrev pub PlanesHaveFacets : Type 0
PlanesHaveFacets = (at : ℕ → Vector) (ids : List ℕ) (m : Surface) → IsFinished at ids m → (i j k : ℕ)
    → IsSupportingTriple at (Members ids) i j k → FacetOfPlane at m i j k

-- a set with a finished surface has dimension 3
abbrev pub FinishedIsSolid : Type 0
FinishedIsSolid = (at : ℕ → Vector) (ids : List ℕ) (m : Surface) → IsFinished at ids m → IsDimension at (Members ids) 3

-- the extreme ids are the extremes of the corners
abbrev pub ExtremesOfCorners : Type 0
ExtremesOfCorners = (at : ℕ → Vector) (ids : List ℕ) (m : Surface) → HasDistinctPoints at (Members ids) → IsFinished at ids m
    → (l : ℕ) → Extreme at (IsLiveCorner m) l ↔ Extreme at (Members ids) l

-- the extreme ids of a supporting plane are the extremes of the corners of the live facets in that plane
abbrev pub ExtremesOfPlane : Type 0
ExtremesOfPlane = (at : ℕ → Vector) (ids : List ℕ) (m : Surface) → HasDistinctPoints at (Members ids)
    → IsFinished at ids m → (i j k : ℕ) → IsSupportingTriple at (Members ids) i j k
    → (l : ℕ) → Extreme at (CornerInPlane at m i j k) l ↔ OnPlane at (Extreme at (Members ids)) i j k l

-- the rising list of the polygons of the live facets' planes is the list of the set's polygons
abbrev pub PolygonsOfFacets : Type 0
PolygonsOfFacets = (at : ℕ → Vector) (ids : List ℕ) (m : Surface) (qs : List (List ℕ)) → IsFinished at ids m → RiseStrictly qs
    → ((f : ℕ) → In f m.live → (q : List ℕ) × In q qs × IsFacePolygon at (Members ids) (m.i f) (m.j f) (m.k f) q)
    → ((q : List ℕ) → In q qs → (f : ℕ) × In f m.live × IsFacePolygon at (Members ids) (m.i f) (m.j f) (m.k f) q)
    → AreFaces at (Members ids) qs
