-- Faces that close up: polygons in which each step from a corner to the next is taken as often as the step back.
-- This project's own.
use Rattle.std.specs.Prelude.{ℕ, ◌≡◌, List, [], ◌∷◌, count_by}
use Rattle.std.specs.List.{flat_map}
use Rattle.qh_model.specs.{contract.ClosedSurface.is_edge, headline.Sets.In, headline.Vector.Vector, headline.SupportingPlane.IsSupportingTriple}
use Rattle.qh_model.specs.headline.Polygons.{IsFacePolygon}

-- the steps along the path from t through the list to e
abbrev pub steps_along : ℕ → List ℕ → ℕ → List (ℕ × ℕ)
steps_along t [] e = (t, e) ∷ []
steps_along t (w ∷ r) e = (t, w) ∷ steps_along w r e

-- the steps round a polygon, from each corner to the next and from the last to the first
abbrev pub steps_round : List ℕ → List (ℕ × ℕ)
steps_round [] = []
steps_round (t ∷ r) = steps_along t r t

-- how often the polygons take the step from u to v
abbrev pub step_count : List (List ℕ) → ℕ → ℕ → ℕ
step_count qs u v = count_by (is_edge (u, v)) (flat_map steps_round qs)

-- each step is taken as often as the step back
abbrev pub AreClosed : List (List ℕ) → Type 0
AreClosed qs = (u v : ℕ) → step_count qs u v ≡ step_count qs v u

-- q is the polygon of a supporting triple
abbrev pub IsFace : (ℕ → Vector) → (ℕ → Type 0) → List ℕ → Type 0
IsFace at A q = (i j k : ℕ) × IsSupportingTriple at A i j k × IsFacePolygon at A i j k q

-- faces of the set, at least one, that close up
pub record AreClosedFaces (at : ℕ → Vector) (A : ℕ → Type 0) (qs : List (List ℕ)) : Type 0 where
  pub some : List ℕ
  pub there : In some qs
  pub faces : (q : List ℕ) → In q qs → IsFace at A q
  pub closed : AreClosed qs
