-- Locally convex surfaces: closed surfaces that turn outwards at no edge and go round a place exactly once.
-- Source: Mehlhorn, Naeher, Seel, Seidel, Schilz, Schirra and Uhrig 1999 (checking geometric programs).
use Rattle.std.specs.Prelude.{ℕ, ◌≡◌, ◌≤◌, ◌⊎◌, ◌&&◌, Bool, true, List, length, count_by, pos, int_lt, ◌≤ℤ◌, ◌<ℤ◌}
use Rattle.qh_model.specs.{contract.ClosedSurface.Triple, contract.ClosedSurface.IsClosed, headline.Vector.Vector}
use Rattle.qh_model.specs.headline.{Predicates.cross, Predicates.vol, Sets.In, Sets.Once, Sets.BeginsWithLeast, Polygon.Follows, Polygon.TurnsLeft}
use Rattle.qh_model.specs.laws.ClosedSurfaceLaws.{IsCornerOf}

-- the triangle is u, v, w, beginning at any of its corners
abbrev pub IsRound : Triple → ℕ → ℕ → ℕ → Type 0
IsRound t u v w =
    ((t.i ≡ u) × (t.j ≡ v) × (t.k ≡ w)) ⊎ ((t.j ≡ u) × (t.k ≡ v) × (t.i ≡ w)) ⊎ ((t.k ≡ u) × (t.i ≡ v) × (t.j ≡ w))

-- a triangle of the list on the other side of the edge from u to v of t, with its third corner not above t
pub record HasLowNeighbour (at : ℕ → Vector) (ts : List Triple) (t : Triple) (u v : ℕ) : Type 0 where
  pub next : Triple
  pub there : In next ts
  pub third : ℕ
  pub round : IsRound next v u third
  pub below : vol (at t.i) (at t.j) (at t.k) (at third) ≤ℤ pos 0

-- t has a low neighbour across each edge
pub record IsConvexAround (at : ℕ → Vector) (ts : List Triple) (t : Triple) : Type 0 where
  pub over_ij : HasLowNeighbour at ts t t.i t.j
  pub over_jk : HasLowNeighbour at ts t t.j t.k
  pub over_ki : HasLowNeighbour at ts t t.k t.i

-- across each edge of t is a neighbour with its third corner strictly below t
pub record IsSharpAround (at : ℕ → Vector) (ts : List Triple) (t : Triple) : Type 0 where
  pub around : IsConvexAround at ts t
  pub over_ij : vol (at t.i) (at t.j) (at t.k) (at around.over_ij.third) <ℤ pos 0
  pub over_jk : vol (at t.i) (at t.j) (at t.k) (at around.over_jk.third) <ℤ pos 0
  pub over_ki : vol (at t.i) (at t.j) (at t.k) (at around.over_ki.third) <ℤ pos 0

-- the edge from u to v of a triangle of the list in the plane of t, with the third corner past it strictly below
pub record IsSharpEdge (at : ℕ → Vector) (ts : List Triple) (t : Triple) (u v : ℕ) : Type 0 where
  pub side : Triple
  pub there : In side ts
  pub third : ℕ
  pub round : IsRound side u v third
  pub level : vol (at t.i) (at t.j) (at t.k) (at third) ≡ pos 0
  pub over : HasLowNeighbour at ts side u v
  pub below : vol (at side.i) (at side.j) (at side.k) (at over.third) <ℤ pos 0

-- a convex polygon in the plane of t along sharp edges, beginning with its least id
pub record IsSharpPolygon (at : ℕ → Vector) (ts : List Triple) (t : Triple) (q : List ℕ) : Type 0 where
  pub three : 3 ≤ length q
  pub once : Once q
  pub least : BeginsWithLeast q
  pub level : (l : ℕ) → In l q → vol (at t.i) (at t.j) (at t.k) (at l) ≡ pos 0
  pub round : (u v : ℕ) → Follows u v q → TurnsLeft at (cross (at t.i) (at t.j) (at t.k)) q u v
  pub edges : (u v : ℕ) → Follows u v q → IsSharpEdge at ts t u v

-- each polygon of the list is sharp
abbrev pub AreSharpPolygons : (ℕ → Vector) → List Triple → List (List ℕ) → Type 0
AreSharpPolygons at ts qs = (q : List ℕ) → In q qs → (t : Triple) × In t ts × IsSharpPolygon at ts t q

-- polygons of the triangles: each is sharp, and each triangle is in the plane of one
pub record ArePolygonsOf (at : ℕ → Vector) (ts : List Triple) (qs : List (List ℕ)) : Type 0 where
  pub sharp : AreSharpPolygons at ts qs
  pub each : (t : Triple) → In t ts → (q : List ℕ) × In q qs × IsSharpPolygon at ts t q

-- does the ray from z through d meet the inside of t, for a triangle with z strictly below?
abbrev pub is_met : (ℕ → Vector) → Vector → Vector → Triple → Bool
is_met at z d t =
    int_lt (pos 0) (vol z (at t.i) (at t.j) d) && (int_lt (pos 0) (vol z (at t.j) (at t.k) d) && int_lt (pos 0) (vol z (at t.k) (at t.i) d))

-- the ray misses t and its edges: it is strictly outside one of them
abbrev pub IsMissed : (ℕ → Vector) → Vector → Vector → Triple → Type 0
IsMissed at z d t = (vol z (at t.i) (at t.j) d <ℤ pos 0) ⊎ (vol z (at t.j) (at t.k) d <ℤ pos 0) ⊎ (vol z (at t.k) (at t.i) d <ℤ pos 0)

-- a closed surface that turns outwards at no edge, with z strictly below all its triangles; the ray from z through d meets the inside of one triangle, and
-- misses all others
pub record IsLocallyConvex (at : ℕ → Vector) (ts : List Triple) (z d : Vector) : Type 0 where
  pub closed : IsClosed ts
  pub inside : (t : Triple) → In t ts → vol (at t.i) (at t.j) (at t.k) z <ℤ pos 0
  pub convex : (t : Triple) → In t ts → IsConvexAround at ts t
  pub told : (t : Triple) → In t ts → is_met at z d t ≡ true ⊎ IsMissed at z d t
  pub once : count_by (is_met at z d) ts ≡ 1

-- p lies in the cone from z over a triangle of the list, and not above the triangle
pub record IsUnder (at : ℕ → Vector) (ts : List Triple) (z p : Vector) : Type 0 where
  pub t : Triple
  pub there : In t ts
  pub first : pos 0 ≤ℤ vol z (at t.i) (at t.j) p
  pub second : pos 0 ≤ℤ vol z (at t.j) (at t.k) p
  pub third : pos 0 ≤ℤ vol z (at t.k) (at t.i) p
  pub below : vol (at t.i) (at t.j) (at t.k) p ≤ℤ pos 0

-- the corners are members of the list, and each other member lies under a triangle
pub record HasAllUnder (at : ℕ → Vector) (ids : List ℕ) (ts : List Triple) (z : Vector) : Type 0 where
  pub corners : (l : ℕ) → IsCornerOf ts l → In l ids
  pub others : (l : ℕ) → In l ids → IsCornerOf ts l ⊎ IsUnder at ts z (at l)
