-- Laws of the edges of a solid: one face runs along each edge in one direction, and another face in the opposite direction.
-- Source: Preparata and Hong 1977 (gift wrapping: a plane is turned about an edge of a face to the next face).
use Rattle.std.specs.Prelude.{ℕ, ◌≡◌, List}
use Rattle.qh_model.specs.{contract.IdSets.HasDistinctPoints, headline.Vector.Vector, headline.Sets.In, headline.Sets.Members, headline.Dimension.IsDimension}
use Rattle.qh_model.specs.headline.{SupportingPlane.IsSupportingTriple, Polygon.Follows, Polygons.IsFacePolygon, Polygons.AreFaces}

-- two faces with the step from u to v are the same
abbrev pub OneFaceEachWay : Type 0
OneFaceEachWay = (at : ℕ → Vector) (ids : List ℕ) (i j k a b c : ℕ) (p q : List ℕ) (u v : ℕ) → HasDistinctPoints at (Members ids)
    → IsSupportingTriple at (Members ids) i j k → IsSupportingTriple at (Members ids) a b c
    → IsFacePolygon at (Members ids) i j k p → IsFacePolygon at (Members ids) a b c q
    → Follows u v p → Follows u v q → p ≡ q

-- if a face has the step from u to v, a face has the step from v to u
abbrev pub OtherFace : Type 0
OtherFace = (at : ℕ → Vector) (ids : List ℕ) (qs : List (List ℕ)) → HasDistinctPoints at (Members ids)
    → IsDimension at (Members ids) 3 → AreFaces at (Members ids) qs
    → (q : List ℕ) → In q qs → (u v : ℕ) → Follows u v q → (p : List ℕ) × In p qs × Follows v u p
