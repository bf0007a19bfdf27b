-- Closed surfaces: lists of triangles in which each edge has the same number of triangles in either direction.
use Rattle.std.specs.Prelude.{ℕ, ◌≡◌, ◌≤◌, ◌==◌, ◌&&◌, Bool, List, [], ◌∷◌, length, count_by, ℤ, pos, ◌+ℤ◌}
use Rattle.qh_model.specs.{contract.Surface.Surface, headline.Vector.Vector, headline.Predicates.vol, headline.Predicates.AreInLine, headline.Sets.In}

-- three ids in order
pub record Triple : Type 0 where
  pub i : ℕ
  pub j : ℕ
  pub k : ℕ

-- the edges of the triangles, each from one id to the next
abbrev pub edges : List Triple → List (ℕ × ℕ)
edges [] = []
edges (t ∷ ts) = (t.i, t.j) ∷ (t.j, t.k) ∷ (t.k, t.i) ∷ edges ts

abbrev pub is_edge : (ℕ × ℕ) → (ℕ × ℕ) → Bool
is_edge e f = e.0 == f.0 && e.1 == f.1

-- each ordered pair is an edge as often as its reverse
abbrev pub IsClosed : List Triple → Type 0
IsClosed ts = (u v : ℕ) → count_by (is_edge (u, v)) (edges ts) ≡ count_by (is_edge (v, u)) (edges ts)

-- some triangles that close up; the corners of none are in line
pub record IsClosedSurface (at : ℕ → Vector) (ts : List Triple) : Type 0 where
  pub some : 1 ≤ length ts
  pub area : (t : Triple) → In t ts → ¬ (AreInLine (at t.i) (at t.j) (at t.k))
  pub closed : IsClosed ts

-- the sum of the volumes of the triangles with p: minus six times the volume inside
abbrev pub signed_volume : (ℕ → Vector) → List Triple → Vector → ℤ
signed_volume at [] p = pos 0
signed_volume at (t ∷ ts) p = vol (at t.i) (at t.j) (at t.k) p +ℤ signed_volume at ts p

-- the corners of facets, and those of the live facets of a surface
abbrev pub triples_from : Surface → List ℕ → List Triple
triples_from m [] = []
triples_from m (f ∷ fs) = record { i = m.i f; j = m.j f; k = m.k f } ∷ triples_from m fs

abbrev pub triples_of : Surface → List Triple
triples_of m = triples_from m m.live
