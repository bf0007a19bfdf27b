-- The edges of polygons, each counted as a step from a lower id to a higher one.
use Rattle.std.specs.List.{flat_map}
use Rattle.std.specs.Prelude.{ℕ, List, [], ◌∷◌, cond, length, nat_lt}

-- the pair of u and v in front of other pairs, if u is the lower id
abbrev pub up : ℕ → ℕ → List (ℕ × ℕ) → List (ℕ × ℕ)
up u v ps = cond (nat_lt u v) ((u, v) ∷ ps) ps

-- the steps to a higher id along the path from t through the list to e
abbrev pub ups_along : ℕ → List ℕ → ℕ → List (ℕ × ℕ)
ups_along t [] e = up t e []
ups_along t (w ∷ r) e = up t w (ups_along w r e)

-- the steps to a higher id round a polygon
abbrev pub ups : List ℕ → List (ℕ × ℕ)
ups [] = []
ups (t ∷ r) = ups_along t r t

-- the number of steps to a higher id over all polygons
abbrev pub all_edges_up : List (List ℕ) → ℕ
all_edges_up qs = length (flat_map ups qs)
