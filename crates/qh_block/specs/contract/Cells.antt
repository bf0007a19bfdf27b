-- Boxes of space, and cells: a box with the planes near it. This project's own.
use Rattle.std.specs.Prelude.{◌⊎◌, ◌<◌, ℕ, List, All, length, slice_index_or, pos, ◌<ℤ◌}
use Rattle.qh_model.specs.{contract.Places.IsPlace, headline.Vector.Vector, headline.Vector.origin, headline.Sets.In}
use Rattle.qh_pred.specs.contract.{Planes.PlaneValue, Planes.height, Corners.IsInBox}
use Rattle.qh_block.specs.declared.regions.{bounds.Bounds.Bounds, cells.Cell.Cell, columns.Columns.Columns}

-- a point between the two corners of a box
abbrev pub IsWithin : Bounds → Vector → Type 0
IsWithin b p = IsInBox b.low b.high p

-- the plane is strictly above all points of the box
abbrev pub IsBelow : Bounds → PlaneValue → Type 0
IsBelow b plane = (p : Vector) → IsWithin b p → height plane p <ℤ pos 0

-- the plane with a number in a list; past its end an arbitrary plane
abbrev pub numbered : List PlaneValue → ℕ → PlaneValue
numbered planes k = slice_index_or planes k (record { normal = origin; offset = pos 0 })

-- each plane of the list is listed as near, or strictly above all points of the box
abbrev pub AreNear : List PlaneValue → Bounds → List ℕ → Type 0
AreNear planes b near = (k : ℕ) → k < length planes → IsBelow b (numbered planes k) ⊎ In k near

-- each plane of the list is listed in the cell as near, or strictly above all points of the cell's box
abbrev pub IsCellOf : List PlaneValue → Cell → Type 0
IsCellOf planes c = AreNear planes c.bounds c.near.items

-- a point of the cell's box, strictly below all planes near the cell
abbrev pub IsHeld : List PlaneValue → Cell → Vector → Type 0
IsHeld planes c p = IsPlace p × IsWithin c.bounds p × All (λ k. height (numbered planes k) p <ℤ pos 0) c.near.items

-- one of the cells holds the point
abbrev pub HoldsPoint : Columns → Vector → Type 0
HoldsPoint columns p = (c : Cell) × In c columns.cells.items × IsHeld columns.planes.items c p
