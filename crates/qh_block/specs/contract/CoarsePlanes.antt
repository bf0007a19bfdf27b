-- Planes with normals of few bits, each below another plane wherever points are. This project's own.
use Rattle.std.specs.Prelude.{◌^◌, ℤ, pos, neg_ℤ, ◌≤ℤ◌, ◌<ℤ◌}
use Rattle.qh_model.specs.{contract.Places.IsPlace, headline.Vector.Vector}
use Rattle.qh_pred.specs.contract.Planes.{PlaneValue, height}

-- a number of 64 bits
abbrev pub IsOffset : ℤ → Type 0
IsOffset n = (neg_ℤ (pos (2 ^ 63)) ≤ℤ n) × (n <ℤ pos (2 ^ 63))

-- the invariant of a coarse plane: a normal within the limit of coordinates, and an offset of 64 bits
pub record IsCoarse (plane : PlaneValue) : Type 0 where
  pub normal : IsPlace plane.normal
  pub offset : IsOffset plane.offset

-- each point that is strictly below the second plane is strictly below the first
abbrev pub IsUnder : PlaneValue → PlaneValue → Type 0
IsUnder plane coarse = (p : Vector) → IsPlace p → height coarse p <ℤ pos 0 → height plane p <ℤ pos 0
