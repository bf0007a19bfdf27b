-- The laws of locally convex surfaces.
-- Source: Mehlhorn, Naeher, Seel, Seidel, Schilz, Schirra and Uhrig 1999 (checking geometric programs).
use Rattle.std.specs.Prelude.{ℕ, ◌↔◌, List, [], ◌∷◌, ◌<◌, pos, ◌≤ℤ◌}
use Rattle.qh_model.specs.contract.{ClosedPolygons.AreClosed, IdSets.HasDistinctPoints, ClosedSurface.Triple, ClosedSurface.IsClosedSurface}
use Rattle.qh_model.specs.headline.{Vector.Vector, Predicates.vol, Sets.In, Sets.Members, Polygons.IsFacePolygon, Polygons.RiseStrictly, Polygons.AreFaces}
use Rattle.qh_model.specs.{headline.Extreme.Extreme, headline.Dimension.IsDimension, laws.ClosedSurfaceLaws.IsCornerOf, laws.ClosedFaceLaws.AreSupporting}
use Rattle.qh_laws.specs.contract.LocallyConvex.{IsRound, IsSharpAround, IsSharpPolygon, IsLocallyConvex, IsUnder, HasAllUnder, AreSharpPolygons, ArePolygonsOf}

-- no corner of a locally convex surface is above a triangle of it
abbrev pub LocalIsConvex : Type 0
LocalIsConvex = (at : ℕ → Vector) (ts : List Triple) (z d : Vector) → IsLocallyConvex at ts z d
    → (l : ℕ) → IsCornerOf ts l → (t : Triple) → In t ts → vol (at t.i) (at t.j) (at t.k) (at l) ≤ℤ pos 0

-- a point that lies under a triangle of the surface is above no triangle
abbrev pub UnderIsBelow : Type 0
UnderIsBelow = (at : ℕ → Vector) (ts : List Triple) (z d : Vector) → IsLocallyConvex at ts z d
    → (p : Vector) → IsUnder at ts z p → (t : Triple) → In t ts → vol (at t.i) (at t.j) (at t.k) p ≤ℤ pos 0

-- the triangles support a set that has all corners, and each other member under a triangle
abbrev pub LocalSupports : Type 0
LocalSupports = (at : ℕ → Vector) (ids : List ℕ) (ts : List Triple) (z d : Vector) → IsLocallyConvex at ts z d
    → HasAllUnder at ids ts z → IsClosedSurface at ts × AreSupporting at (Members ids) ts

-- a triangle with its neighbours strictly below it is a face, beginning with its least id
abbrev pub SharpIsFace : Type 0
SharpIsFace = (at : ℕ → Vector) (ids : List ℕ) (ts : List Triple) (z d : Vector) → IsLocallyConvex at ts z d
    → HasAllUnder at ids ts z → HasDistinctPoints at (Members ids)
    → (t : Triple) → In t ts → IsSharpAround at ts t → (u v w : ℕ) → IsRound t u v w → u < v → u < w
    → IsFacePolygon at (Members ids) t.i t.j t.k (u ∷ v ∷ w ∷ [])

-- a convex polygon along sharp edges is a face
abbrev pub SharpPolygonIsFace : Type 0
SharpPolygonIsFace = (at : ℕ → Vector) (ids : List ℕ) (ts : List Triple) (z d : Vector) → IsLocallyConvex at ts z d
    → HasAllUnder at ids ts z → HasDistinctPoints at (Members ids)
    → (t : Triple) → In t ts → (q : List ℕ) → IsSharpPolygon at ts t q → IsFacePolygon at (Members ids) t.i t.j t.k q

-- ---- hulls
-- sharp polygons, at least one, that close up are all faces
abbrev pub SharpPolygonsAreFaces : Type 0
SharpPolygonsAreFaces = (at : ℕ → Vector) (ids : List ℕ) (ts : List Triple) (z d : Vector) → IsLocallyConvex at ts z d
    → HasAllUnder at ids ts z → HasDistinctPoints at (Members ids)
    → (qs : List (List ℕ)) (q : List ℕ) → In q qs → AreSharpPolygons at ts qs → AreClosed qs → RiseStrictly qs
    → AreFaces at (Members ids) qs

-- the polygons of all triangles are all faces
abbrev pub TrianglePolygonsAreFaces : Type 0
TrianglePolygonsAreFaces = (at : ℕ → Vector) (ids : List ℕ) (ts : List Triple) (z d : Vector) → IsLocallyConvex at ts z d
    → HasAllUnder at ids ts z → HasDistinctPoints at (Members ids)
    → (qs : List (List ℕ)) → ArePolygonsOf at ts qs → RiseStrictly qs → AreFaces at (Members ids) qs

-- the corners of the polygons of all triangles are the extreme ids
abbrev pub TrianglePolygonsHaveExtremes : Type 0
TrianglePolygonsHaveExtremes = (at : ℕ → Vector) (ids : List ℕ) (ts : List Triple) (z d : Vector) → IsLocallyConvex at ts z d
    → HasAllUnder at ids ts z → HasDistinctPoints at (Members ids)
    → (qs : List (List ℕ)) → ArePolygonsOf at ts qs
    → (l : ℕ) → Extreme at (Members ids) l ↔ ((q : List ℕ) × In q qs × In l q)

-- a set that has all corners is a solid, if there is a sharp polygon
abbrev pub SharpIsSolid : Type 0
SharpIsSolid = (at : ℕ → Vector) (ids : List ℕ) (ts : List Triple) → ((l : ℕ) → IsCornerOf ts l → In l ids)
    → (t : Triple) → (q : List ℕ) → IsSharpPolygon at ts t q → IsDimension at (Members ids) 3
