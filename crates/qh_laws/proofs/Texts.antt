-- The texts of the hulls of a tetrahedron and of a square, computed.
use Rattle.qh_model.proofs.Common.{◌≡◌, ℕ, refl, List, [], ◌∷◌, ◌++◌, pos, codes, HullValue, place, line, hull_text, vertex_number, Vector}
use Rattle.std.specs.Fmt.{digits}
use Rattle.qh_model.specs.declared.out.Out.TheVariants.{Rank, Fx, Off, OffTriangles}

abbrev pub point : ℕ → ℕ → ℕ → Vector
point x y z = record { x = pos x; y = pos y; z = pos z }

-- the corners of the tetrahedron at the origin
abbrev corners : List Vector
corners = point 0 0 0 ∷ point 1 0 0 ∷ point 0 1 0 ∷ point 0 0 1 ∷ []

abbrev hull : HullValue
hull = record {
  given = 4;
  distinct = 4;
  body = record {
    dim = 3;
    extremes = 0 ∷ 1 ∷ 2 ∷ 3 ∷ [];
    polygons = (0 ∷ 1 ∷ 3 ∷ []) ∷ (0 ∷ 2 ∷ 1 ∷ []) ∷ (0 ∷ 3 ∷ 2 ∷ []) ∷ (1 ∷ 2 ∷ 3 ∷ []) ∷ [];
    edges = 6;
  };
}

-- `rank`
pub rank : hull_text hull corners (Rank ∷ []) ≡ line (codes "4 4 3")
unfolding digits
rank = refl

-- `Fx` and then `rank`: outputs are joined in order
pub extremes : hull_text hull corners (Fx ∷ Rank ∷ [])
    ≡ line (codes "4") ++ line (codes "0") ++ line (codes "1") ++ line (codes "2") ++ line (codes "3") ++ line (codes "4 4 3")
unfolding digits
extremes = refl

-- `off`
pub off : hull_text hull corners (Off ∷ [])
    ≡ line (codes "OFF") ++ line (codes "4 4 6")
    ++ line (codes "0 0 0") ++ line (codes "1 0 0") ++ line (codes "0 1 0") ++ line (codes "0 0 1")
    ++ line (codes "3 0 1 3") ++ line (codes "3 0 2 1") ++ line (codes "3 0 3 2") ++ line (codes "3 1 2 3")
unfolding digits place
off = refl

-- `offt`: triangles are their own fans
pub triangles : hull_text hull corners (OffTriangles ∷ []) ≡ hull_text hull corners (Off ∷ [])
triangles = refl

-- the square (5,0,0) (5,2,0) (5,2,2) (5,0,2), listed after another point of it
abbrev pub square_corners : List Vector
square_corners = point 5 1 1 ∷ point 5 0 0 ∷ point 5 2 0 ∷ point 5 2 2 ∷ point 5 0 2 ∷ []

abbrev pub square : HullValue
square = record { given = 5; distinct = 5; body = record { dim = 2; extremes = 1 ∷ 2 ∷ 3 ∷ 4 ∷ []; polygons = (1 ∷ 2 ∷ 3 ∷ 4 ∷ []) ∷ []; edges = 4 } }

-- `offt`: two triangles, with five edges
pub square_in_triangles : hull_text square square_corners (OffTriangles ∷ [])
    ≡ line (codes "OFF") ++ line (codes "4 2 5")
    ++ line (codes "5 0 0") ++ line (codes "5 2 0") ++ line (codes "5 2 2") ++ line (codes "5 0 2")
    ++ line (codes "3 0 1 2") ++ line (codes "3 0 2 3")
unfolding digits place
square_in_triangles = refl

-- a vertex number is a position among the extreme ids, not an id
pub third_vertex : vertex_number (4 ∷ 7 ∷ 9 ∷ []) 9 ≡ 2
third_vertex = refl
