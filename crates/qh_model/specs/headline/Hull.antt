-- Definitions of the right hull of a set of ids, and of a list of points.
use Rattle.std.specs.Prelude.{◌≡◌, ℕ, ◌↔◌, List, length}
use Rattle.std.specs.List.Sorted.{IsStrictlyIncreasing}
use Rattle.qh_model.specs.headline.{Vector.Vector, Predicates.place, Sets.In, Sets.Members, DistinctIds.AreDistinctIds, Dimension.IsDimension, Extreme.Extreme}
use Rattle.qh_model.specs.headline.Polygons.{ArePolygons, IsEdgeCount}

-- a hull as a contract sees it
pub record BodyValue : Type 0 where
  pub dim : ℕ
  pub extremes : List ℕ
  pub polygons : List (List ℕ)
  pub edges : ℕ

pub record HullValue : Type 0 where
  pub given : ℕ
  pub distinct : ℕ
  pub body : BodyValue

-- the rising list of the extreme ids
pub record AreExtremes (at : ℕ → Vector) (A : ℕ → Type 0) (extremes : List ℕ) : Type 0 where
  pub rising : IsStrictlyIncreasing extremes
  pub members : (i : ℕ) → In i extremes ↔ Extreme at A i

-- the hull of a set of ids of distinct points
pub record IsBody (at : ℕ → Vector) (A : ℕ → Type 0) (b : BodyValue) : Type 0 where
  pub dim : IsDimension at A b.dim
  pub extremes : AreExtremes at A b.extremes
  pub polygons : ArePolygons at A b.dim b.polygons
  pub edges : IsEdgeCount b.polygons b.edges

-- the hull of a list of points: that of its distinct ids
pub record IsHull (pts : List Vector) (h : HullValue) : Type 0 where
  pub ids : List ℕ
  pub distinct_ids : AreDistinctIds pts ids
  pub given : h.given ≡ length pts
  pub distinct : h.distinct ≡ length ids
  pub body : IsBody (place pts) (Members ids) h.body
