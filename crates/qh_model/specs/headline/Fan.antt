-- Faces as fans of triangles, and the number of edges of these faces.
-- Source: OpenGL (all triangles of a fan share its first vertex).
use Rattle.std.specs.Prelude.{ℕ, suc, List, [], ◌∷◌, ◌==◌, ◌&&◌, ◌||◌, if◌then◌else◌, min, max}
use Rattle.std.specs.List.{flat_map, list_any}

-- the triangles of a first vertex and two neighbours each, beginning with u along the list
abbrev pub triangles_along : ℕ → ℕ → List ℕ → List (List ℕ)
triangles_along first u [] = []
triangles_along first u (v ∷ r) = (first ∷ u ∷ v ∷ []) ∷ triangles_along first v r

-- a polygon q of three or more members as the triangles q0 qi qi+1 for i from 1; a shorter polygon unchanged
abbrev pub fan : List ℕ → List (List ℕ)
fan (a ∷ b ∷ c ∷ r) = triangles_along a b (c ∷ r)
fan q = q ∷ []

-- the polygons as fans, in the same order
abbrev pub fans : List (List ℕ) → List (List ℕ)
fans qs = flat_map fan qs

-- each pair of neighbours from t along the list to e, with the lower id first
abbrev pub pairs_along : ℕ → List ℕ → ℕ → List (ℕ × ℕ)
pairs_along t [] e = (min t e, max t e) ∷ []
pairs_along t (w ∷ r) e = (min t w, max t w) ∷ pairs_along w r e

-- each pair of neighbours round a face, including the last and the first
abbrev pub pairs_round : List ℕ → List (ℕ × ℕ)
pairs_round [] = []
pairs_round (t ∷ r) = pairs_along t r t

-- the number of distinct pairs of two different ids
abbrev pub count_pairs : List (ℕ × ℕ) → ℕ
count_pairs [] = 0
count_pairs ((u, v) ∷ ps) = if (u == v) || list_any (λ p. (p.0 == u) && (p.1 == v)) ps then count_pairs ps else suc (count_pairs ps)

-- the number of edges of faces: the distinct pairs of different neighbours over all of them
abbrev pub edge_count : List (List ℕ) → ℕ
edge_count faces = count_pairs (flat_map pairs_round faces)
