-- Laws of fans: in a solid their triangles are supporting triples; and a function computes the number of edges of faces.
-- Source: Preparata and Hong 1977 (supporting planes).
use Rattle.std.specs.Prelude.{ℕ, ◌≡◌, ◌≢◌, List, [], ◌∷◌}
use Rattle.qh_model.specs.{contract.IdSets.HasDistinctPoints, headline.Vector.Vector, headline.Sets.In, headline.Sets.Members}
use Rattle.qh_model.specs.headline.{SupportingPlane.IsSupportingTriple, Polygon.Follows, Polygons.IsFacePolygon, Polygons.AreFaces, Polygons.IsEdgeCount}
use Rattle.qh_model.specs.headline.Fan.{fans, edge_count}

-- two neighbours and a third corner of the polygon of a supporting triple are a supporting triple
abbrev pub CornersSupport : Type 0
CornersSupport = (at : ℕ → Vector) (ids : List ℕ) (i j k : ℕ) (q : List ℕ) → IsSupportingTriple at (Members ids) i j k → IsFacePolygon at (Members ids) i j k q
    → (u v w : ℕ) → Follows u v q → In w q → w ≢ u → w ≢ v → IsSupportingTriple at (Members ids) w u v

-- a supporting triple, as a list
abbrev pub IsSupportingTriangle : (ℕ → Vector) → (ℕ → Type 0) → List ℕ → Type 0
IsSupportingTriangle at A t = (u v w : ℕ) × (t ≡ u ∷ v ∷ w ∷ []) × IsSupportingTriple at A u v w

-- in dimension 3 each member of the fans of the faces is a supporting triple
abbrev pub FansSupport : Type 0
FansSupport = (at : ℕ → Vector) (ids : List ℕ) (qs : List (List ℕ)) → HasDistinctPoints at (Members ids) → AreFaces at (Members ids) qs
    → (t : List ℕ) → In t (fans qs) → IsSupportingTriangle at (Members ids) t

-- the function returns the number of edges of any faces
abbrev pub EdgesAreCounted : Type 0
EdgesAreCounted = (qs : List (List ℕ)) → IsEdgeCount qs (edge_count qs)
