-- The polygons of a set, and the faults of other polygons. This project's own.
use Rattle.std.specs.Prelude.{ℕ, pos, ◌<ℤ◌, List}
use Rattle.qh_model.specs.headline.{Vector.Vector, Predicates.vol, Predicates.AreInLine, Dimension.IsDimension, SupportingPlane.IsSupportingTriple}
use Rattle.qh_model.specs.headline.Polygons.{ArePolygons}
use Rattle.qh_check.specs.{contract.Pieces.BeginsWith, contract.Pieces.IsOfPlane, declared.fault.FaceFault.FaceFault}
use Rattle.qh_check.specs.declared.fault.FaceFault.TheVariants.{NoPlane, Above, OtherFace}

-- the polygons are those of the set, in its dimension
abbrev pub ArePolygonsOf : (ℕ → Vector) → (ℕ → Type 0) → List (List ℕ) → Type 0
ArePolygonsOf at A qs = (dim : ℕ) × IsDimension at A dim × ArePolygons at A dim qs

-- the first three corners are not ids of the set, or are in line; or l is above their plane; or they support the set, and the polygon does not go round corners
-- of the face of their plane
abbrev pub IsFaceFault : (ℕ → Vector) → (ℕ → Type 0) → List ℕ → FaceFault → Type 0
IsFaceFault at A q NoPlane = (i j k : ℕ) → BeginsWith q i j k → A i → A j → A k → AreInLine (at i) (at j) (at k)
IsFaceFault at A q (Above l) = (i j k : ℕ) × BeginsWith q i j k × A l × (pos 0 <ℤ vol (at i) (at j) (at k) (at l))
IsFaceFault at A q OtherFace =
    (i j k : ℕ) × BeginsWith q i j k × IsSupportingTriple at A i j k × ¬ (IsOfPlane at A i j k q)
