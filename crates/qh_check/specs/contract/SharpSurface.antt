-- Surfaces of triangles with an angle at each edge that are the hull of the points at their corners.
-- This project's own.
use Rattle.std.specs.Prelude.{ℕ, ◌≡◌, ◌<◌, ◌≤◌, List, [], ◌∷◌, length}
use Rattle.qh_model.specs.{contract.ClosedSurface.Triple, contract.ClosedPolygons.AreClosed, contract.ClosedPolygons.step_count, headline.Vector.Vector}
use Rattle.qh_model.specs.headline.{Sets.In, Dimension.IsDimension, SupportingPlane.IsSupportingTriple, Polygons.IsFacePolygon}
use Rattle.qh_laws.specs.contract.LocallyConvex.{IsRound}

-- the polygon is a triangular face of the set, and begins at any of its corners
pub record IsTriangleFace (at : ℕ → Vector) (A : ℕ → Type 0) (q : List ℕ) : Type 0 where
  pub t : Triple
  pub corners : q ≡ t.i ∷ t.j ∷ t.k ∷ []
  pub supports : IsSupportingTriple at A t.i t.j t.k
  pub u : ℕ
  pub v : ℕ
  pub w : ℕ
  pub round : IsRound t u v w
  pub face : IsFacePolygon at A t.i t.j t.k (u ∷ v ∷ w ∷ [])

-- the set is a solid, and the polygons, at least one, are triangular faces of it; they close up, and no step from corner to corner is taken twice
pub record IsSharpSurface (at : ℕ → Vector) (A : ℕ → Type 0) (qs : List (List ℕ)) : Type 0 where
  pub solid : IsDimension at A 3
  pub some : 0 < length qs
  pub faces : (q : List ℕ) → In q qs → IsTriangleFace at A q
  pub closed : AreClosed qs
  pub once : (u v : ℕ) → u < v → step_count qs u v ≤ 1
