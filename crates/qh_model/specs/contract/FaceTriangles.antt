-- The triangles of the fan of a face.
-- Source: OpenGL (a fan of triangles goes out from its first vertex).
use Rattle.std.specs.Prelude.{ℕ, List, [], ◌∷◌}
use Rattle.qh_model.specs.headline.Fan.{triangles_along}

-- each triangle has the first corner and two neighbours; fewer than three corners have no triangle
abbrev pub face_triangles : List ℕ → List (List ℕ)
face_triangles (a ∷ b ∷ r) = triangles_along a b r
face_triangles q = []
