-- Laws of supporting triangles and of faces that close up: they include all of the hull.
use Rattle.std.specs.Prelude.{ℕ, ◌≡◌, ◌↔◌, List, pos}
use Rattle.qh_model.specs.contract.{IdSets.HasDistinctPoints, ClosedSurface.Triple, ClosedSurface.IsClosedSurface}
use Rattle.qh_model.specs.{contract.ClosedPolygons.AreClosed, contract.ClosedPolygons.AreClosedFaces, headline.Vector.Vector}
use Rattle.qh_model.specs.headline.{Predicates.cross, Predicates.vol, Sets.In, Sets.Members, Dimension.IsDimension, Extreme.Extreme}
use Rattle.qh_model.specs.{headline.SupportingPlane.IsSupportingTriple, headline.Polygons.RiseStrictly, headline.Polygons.AreFaces, laws.FaceLaws.IsAlong}

-- each triangle is a supporting triple
abbrev pub AreSupporting : (ℕ → Vector) → (ℕ → Type 0) → List Triple → Type 0
AreSupporting at A ts = (t : Triple) → In t ts → IsSupportingTriple at A t.i t.j t.k

-- a triangle of the list that spans the plane of i, j, k, with the same side outside
pub record TriangleOfPlane (at : ℕ → Vector) (ts : List Triple) (i j k : ℕ) : Type 0 where
  pub t : Triple
  pub there : In t ts
  pub along : IsAlong (cross (at t.i) (at t.j) (at t.k)) (cross (at i) (at j) (at k))
  pub level : vol (at t.i) (at t.j) (at t.k) (at i) ≡ pos 0

-- supporting triangles that close up include one in each supporting plane
abbrev pub ClosedMissNoPlane : Type 0
ClosedMissNoPlane = (at : ℕ → Vector) (ids : List ℕ) (ts : List Triple)
    → IsClosedSurface at ts → AreSupporting at (Members ids) ts
    → (i j k : ℕ) → IsSupportingTriple at (Members ids) i j k → TriangleOfPlane at ts i j k

-- supporting triangles that close up include one in a plane through each extreme id
abbrev pub ClosedMissNoExtreme : Type 0
ClosedMissNoExtreme = (at : ℕ → Vector) (ids : List ℕ) (ts : List Triple)
    → IsClosedSurface at ts → AreSupporting at (Members ids) ts → (l : ℕ) → Extreme at (Members ids) l
    → (t : Triple) × In t ts × (vol (at t.i) (at t.j) (at t.k) (at l) ≡ pos 0)

-- faces that close up are all faces
abbrev pub ClosedFacesAreAll : Type 0
ClosedFacesAreAll = (at : ℕ → Vector) (ids : List ℕ) (qs : List (List ℕ)) → HasDistinctPoints at (Members ids)
    → AreClosedFaces at (Members ids) qs → RiseStrictly qs → AreFaces at (Members ids) qs

-- the corners of faces that close up are the extreme ids
abbrev pub ClosedFacesHaveExtremes : Type 0
ClosedFacesHaveExtremes = (at : ℕ → Vector) (ids : List ℕ) (qs : List (List ℕ)) → HasDistinctPoints at (Members ids)
    → AreClosedFaces at (Members ids) qs
    → (l : ℕ) → Extreme at (Members ids) l ↔ ((q : List ℕ) × In q qs × In l q)

-- the faces of a solid close up
abbrev pub FacesClose : Type 0
FacesClose = (at : ℕ → Vector) (ids : List ℕ) (qs : List (List ℕ)) → HasDistinctPoints at (Members ids)
    → IsDimension at (Members ids) 3 → AreFaces at (Members ids) qs → AreClosed qs
