-- The geometric predicates, over whole numbers without bound.
-- Source: Barber, Dobkin and Huhdanpaa 1996 (a point is above a facet by the sign of a determinant).
use Rattle.std.specs.Prelude.{ℕ, ℤ, ◌≡◌, List, slice_index_or}
use Rattle.qh_model.specs.headline.Vector.{Vector, origin, minus, cross_product, dot}

-- (b - a) x (c - a): the normal of the triangle a, b, c, from the side where it is counterclockwise
unfoldable pub cross : Vector → Vector → Vector → Vector
cross a b c = cross_product (minus b a) (minus c a)

-- six times the volume of the tetrahedron a, b, c, d, above 0 if d is on the side of the normal
unfoldable pub vol : Vector → Vector → Vector → Vector → ℤ
vol a b c d = dot (cross a b c) (minus d a)

-- the turn from u over v to w, above 0 if it is to the left seen from the side to which n points
unfoldable pub left : Vector → Vector → Vector → Vector → ℤ
left n u v w = dot (cross u v w) n

-- the three points lie on one line
abbrev pub AreInLine : Vector → Vector → Vector → Type 0
AreInLine a b c = cross a b c ≡ origin

-- the point of an id; the origin for an id past the end of the list
unfoldable pub place : List Vector → ℕ → Vector
place pts i = slice_index_or pts i origin
