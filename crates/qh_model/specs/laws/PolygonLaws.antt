-- Laws of a polygon: it is unique, and depends on the direction of its normal alone.
use Rattle.std.specs.Prelude.{ℕ, ◌≡◌, List}
use Rattle.qh_model.specs.{headline.Vector.Vector, headline.Sets.Members, headline.Polygon.IsPolygon, laws.FaceLaws.IsAlong}

-- at most one list is the polygon of a set and a normal
abbrev pub PolygonIsUnique : Type 0
PolygonIsUnique = (at : ℕ → Vector) (ids : List ℕ) (n : Vector) (p q : List ℕ) → IsPolygon at (Members ids) n p → IsPolygon at (Members ids) n q → p ≡ q

-- a normal of the same direction gives the same polygon
abbrev pub PolygonByDirection : Type 0
PolygonByDirection = (at : ℕ → Vector) (ids : List ℕ) (n m : Vector) (q : List ℕ) → IsAlong n m
    → IsPolygon at (Members ids) n q → IsPolygon at (Members ids) m q
