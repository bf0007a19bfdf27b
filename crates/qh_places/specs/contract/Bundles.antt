-- Bundles of planes: bounds of their normals, and a depth at which a point lies below each of them.
-- This project's own.
use Rattle.std.specs.Prelude.{ℤ, pos, ◌+ℤ◌, ◌*ℤ◌, ◌≤ℤ◌, ◌<ℤ◌}
use Rattle.qh_model.specs.headline.Vector.{Vector}
use Rattle.qh_pred.specs.contract.{Planes.PlaneValue, Planes.height, Ranges.IsBetween}
use Rattle.qh_places.specs.declared.bundles.Bundle.{Bundle}

-- the components are within the spans of a bundle
pub record IsInSpans (b : Bundle) (n : Vector) : Type 0 where
  pub x : IsBetween b.x.low n.x b.x.high
  pub y : IsBetween b.y.low n.y b.y.high
  pub z : IsBetween b.z.low n.z b.z.high

-- a multiple of a vector
abbrev pub taken : Vector → ℤ → Vector
taken n k = record { x = n.x *ℤ k; y = n.y *ℤ k; z = n.z *ℤ k }

-- a multiple of the plane has its normal within the spans, and the origin is at this depth below it
pub record IsOfBundle (b : Bundle) (plane : PlaneValue) : Type 0 where
  pub times : ℤ
  pub some : pos 0 <ℤ times
  pub normal : IsInSpans b (taken plane.normal times)
  pub deep : (height plane b.origin *ℤ times +ℤ b.depth) ≤ℤ pos 0
