-- The pieces in a plane, and the measures of polygons: doubled areas as vectors, and six times the volumes of cones.
-- Source: any textbook (a polygon's area vector; the divergence theorem).
use Rattle.std.specs.Prelude.{ℕ, ℤ, pos, ◌+ℤ◌, List, [], ◌∷◌, Bool}
use Rattle.std.specs.{List.list_all, Ordering.int_eq}
use Rattle.qh_model.specs.headline.{Vector.Vector, Vector.origin, Predicates.cross, Predicates.vol}

-- does each corner of the polygon lie in the plane of i, j and k?
abbrev pub lies_in : (ℕ → Vector) → ℕ → ℕ → ℕ → List ℕ → Bool
lies_in at i j k q = list_all (λ l. int_eq (vol (at i) (at j) (at k) (at l)) (pos 0)) q

-- p + q
abbrev pub plus : Vector → Vector → Vector
plus p q = record { x = p.x +ℤ q.x; y = p.y +ℤ q.y; z = p.z +ℤ q.z }

-- the sum of the normals of the triangles of a and two neighbours each, beginning with u along the list
abbrev pub area_along : (ℕ → Vector) → ℕ → ℕ → List ℕ → Vector
area_along at a u [] = origin
area_along at a u (w ∷ r) = plus (cross (at a) (at u) (at w)) (area_along at a w r)

-- twice the area of a polygon, as a vector at right angles to it
abbrev pub doubled_area : (ℕ → Vector) → List ℕ → Vector
doubled_area at [] = origin
doubled_area at (a ∷ []) = origin
doubled_area at (a ∷ u ∷ r) = area_along at a u r

-- the sum of the doubled areas of polygons
abbrev pub doubled_areas : (ℕ → Vector) → List (List ℕ) → Vector
doubled_areas at [] = origin
doubled_areas at (q ∷ qs) = plus (doubled_area at q) (doubled_areas at qs)

-- the sum of six times the volumes of o over the triangles of a and two neighbours each, beginning with u along the list
abbrev pub volume_along : (ℕ → Vector) → Vector → ℕ → ℕ → List ℕ → ℤ
volume_along at o a u [] = pos 0
volume_along at o a u (w ∷ r) = vol (at a) (at u) (at w) o +ℤ volume_along at o a w r

-- six times the volume of the cone from a polygon to o, below 0 if o lies below the polygon
abbrev pub cone_volume : (ℕ → Vector) → Vector → List ℕ → ℤ
cone_volume at o [] = pos 0
cone_volume at o (a ∷ []) = pos 0
cone_volume at o (a ∷ u ∷ r) = volume_along at o a u r

-- the sum of the cone volumes of polygons: for a closed surface, minus six times the volume inside
abbrev pub cone_volumes : (ℕ → Vector) → Vector → List (List ℕ) → ℤ
cone_volumes at o [] = pos 0
cone_volumes at o (q ∷ qs) = cone_volume at o q +ℤ cone_volumes at o qs
