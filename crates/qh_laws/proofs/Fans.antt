-- Fans of small faces and their edges, computed.
use Rattle.qh_model.proofs.Common.{◌≡◌, ℕ, refl, List, [], ◌∷◌, fan, fans, pairs_round, edge_count}
use Rattle.qh_laws.proofs.Tables.{Shows}

-- ---- fans
-- all triangles share the first corner; a triangle is its own fan, and the faces of a segment and of a point do not change
pub of_faces : Shows fan (
    (0 ∷ 2 ∷ 9 ∷ 7 ∷ 5 ∷ [], (0 ∷ 2 ∷ 9 ∷ []) ∷ (0 ∷ 9 ∷ 7 ∷ []) ∷ (0 ∷ 7 ∷ 5 ∷ []) ∷ [])
    ∷ (0 ∷ 3 ∷ 1 ∷ [], (0 ∷ 3 ∷ 1 ∷ []) ∷ []) ∷ (2 ∷ 6 ∷ [], (2 ∷ 6 ∷ []) ∷ []) ∷ (4 ∷ [], (4 ∷ []) ∷ []) ∷ [])
of_faces = refl

-- triangles that share another corner are not the fan
pub not_from_1 : ¬ (fan (0 ∷ 1 ∷ 2 ∷ 3 ∷ []) ≡ (1 ∷ 2 ∷ 3 ∷ []) ∷ (1 ∷ 3 ∷ 0 ∷ []) ∷ [])
not_from_1 e = cc

-- the triangles in another order are not the fan
pub not_sorted : ¬ (fan (0 ∷ 3 ∷ 2 ∷ 1 ∷ []) ≡ (0 ∷ 2 ∷ 1 ∷ []) ∷ (0 ∷ 3 ∷ 2 ∷ []) ∷ [])
not_sorted e = cc

-- a fan with one more triangle that closes it is not the fan
pub not_closed : ¬ (fan (0 ∷ 1 ∷ 2 ∷ 3 ∷ []) ≡ (0 ∷ 1 ∷ 2 ∷ []) ∷ (0 ∷ 2 ∷ 3 ∷ []) ∷ (0 ∷ 3 ∷ 1 ∷ []) ∷ [])
not_closed e = cc

-- fans are in the order of their polygons: `0 3 2` comes before `0 1 5`, though it is greater
pub in_order : fans ((0 ∷ 1 ∷ 3 ∷ 2 ∷ []) ∷ (0 ∷ 1 ∷ 5 ∷ []) ∷ []) ≡ (0 ∷ 1 ∷ 3 ∷ []) ∷ (0 ∷ 3 ∷ 2 ∷ []) ∷ (0 ∷ 1 ∷ 5 ∷ []) ∷ []
in_order = refl

-- ---- edges
-- neighbours, with the lower id first; the last and the first are neighbours, too
pub neighbours : pairs_round (0 ∷ 9 ∷ 7 ∷ []) ≡ (0, 9) ∷ (7, 9) ∷ (0, 7) ∷ []
neighbours = refl

-- the faces of the unit cube
abbrev cube : List (List ℕ)
cube = (0 ∷ 1 ∷ 3 ∷ 2 ∷ []) ∷ (0 ∷ 2 ∷ 6 ∷ 4 ∷ []) ∷ (0 ∷ 4 ∷ 5 ∷ 1 ∷ []) ∷ (1 ∷ 5 ∷ 7 ∷ 3 ∷ []) ∷ (2 ∷ 3 ∷ 7 ∷ 6 ∷ []) ∷ (4 ∷ 6 ∷ 7 ∷ 5 ∷ []) ∷ []

-- two faces that share an edge, the same edges from either side, a segment (the two ways between its ends are one edge), a
-- point (it is its own neighbour, and has no edge), and the cube
pub edges : Shows edge_count (
    ((0 ∷ 1 ∷ 2 ∷ []) ∷ (0 ∷ 2 ∷ 3 ∷ []) ∷ [], 5) ∷ ((0 ∷ 1 ∷ 2 ∷ []) ∷ (0 ∷ 2 ∷ 1 ∷ []) ∷ [], 3)
    ∷ ((2 ∷ 6 ∷ []) ∷ [], 1) ∷ ((4 ∷ []) ∷ [], 0) ∷ (cube, 12) ∷ [])
edges = refl

-- the fans of the cube have one edge more for each face
pub cube_fan_edges : edge_count (fans cube) ≡ 18
cube_fan_edges = refl
