-- Laws of scales: facts about points at a larger scale, at which a middle is a whole vector, hold for the points.
use Rattle.std.specs.Prelude.{ℕ, ◌≡◌, ◌<◌, ◌↔◌, List, pos, ◌*ℤ◌}
use Rattle.qh_model.specs.{contract.IdSets.HasDistinctPoints, contract.ClosedSurface.Triple, headline.Vector.Vector, headline.Predicates.vol}
use Rattle.qh_model.specs.headline.{Sets.Members, Extreme.Extreme, Polygons.AreFaces}
use Rattle.qh_laws.specs.contract.{LocallyConvex.IsConvexAround, LocallyConvex.ArePolygonsOf, Scaled.at_scale}

-- volumes keep their signs
abbrev pub ScaledVolume : Type 0
ScaledVolume = (m : ℕ) (at : ℕ → Vector) (i j k l : ℕ)
    → vol (at_scale m at i) (at_scale m at j) (at_scale m at k) (at_scale m at l) ≡ pos m *ℤ pos m *ℤ pos m *ℤ vol (at i) (at j) (at k) (at l)

-- different points stay different
abbrev pub ScaleKeepsDistinct : Type 0
ScaleKeepsDistinct = (m : ℕ) → 0 < m → (at : ℕ → Vector) (ids : List ℕ)
    → HasDistinctPoints at (Members ids) → HasDistinctPoints (at_scale m at) (Members ids)

-- a surface that turns outwards at no edge of t turns outwards at no edge of t at the scale
abbrev pub ScaleKeepsConvex : Type 0
ScaleKeepsConvex = (m : ℕ) → 0 < m → (at : ℕ → Vector) (ts : List Triple) (t : Triple)
    → IsConvexAround at ts t → IsConvexAround (at_scale m at) ts t

-- sharp polygons are sharp at the scale
abbrev pub ScaleKeepsPolygons : Type 0
ScaleKeepsPolygons = (m : ℕ) → 0 < m → (at : ℕ → Vector) (ts : List Triple) (qs : List (List ℕ))
    → ArePolygonsOf at ts qs → ArePolygonsOf (at_scale m at) ts qs

-- the extreme ids at the scale are those of the points
abbrev pub ScaleKeepsExtremes : Type 0
ScaleKeepsExtremes = (m : ℕ) → 0 < m → (at : ℕ → Vector) (ids : List ℕ) (l : ℕ)
    → Extreme (at_scale m at) (Members ids) l ↔ Extreme at (Members ids) l

-- the faces at the scale are those of the points
abbrev pub ScaleKeepsFaces : Type 0
ScaleKeepsFaces = (m : ℕ) → 0 < m → (at : ℕ → Vector) (ids : List ℕ) (qs : List (List ℕ))
    → AreFaces (at_scale m at) (Members ids) qs → AreFaces at (Members ids) qs
