-- Laws of surfaces in pieces: the polygons of a right body are a surface of its hull, and so are their fans.
-- This project's own.
use Rattle.std.specs.Prelude.{ℕ, List}
use Rattle.qh_model.specs.{contract.IdSets.HasDistinctPoints, headline.Vector.Vector, headline.Sets.Members, headline.Dimension.IsDimension}
use Rattle.qh_model.specs.headline.{Hull.BodyValue, Hull.IsBody, Fan.fans}
use Rattle.qh_check.specs.contract.Surfaces.{IsHullSurface}

-- the polygons of a right body are a surface of the hull, in every dimension
abbrev pub BodyIsSurface : Type 0
BodyIsSurface = (at : ℕ → Vector) (ids : List ℕ) (b : BodyValue) → HasDistinctPoints at (Members ids)
    → IsBody at (Members ids) b → IsHullSurface at (Members ids) b.polygons

-- in a solid, the fans of the polygons are a surface of the hull
abbrev pub FansAreSurface : Type 0
FansAreSurface = (at : ℕ → Vector) (ids : List ℕ) (b : BodyValue) → HasDistinctPoints at (Members ids)
    → IsDimension at (Members ids) 3 → IsBody at (Members ids) b → IsHullSurface at (Members ids) (fans b.polygons)
