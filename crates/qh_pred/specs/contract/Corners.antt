-- Axis-parallel boxes and their corners. This project's own.
use Rattle.std.specs.Prelude.{◌≡◌, ◌⊎◌, ◌≤ℤ◌}
use Rattle.qh_model.specs.headline.Vector.{Vector}
use Rattle.qh_pred.specs.contract.Ranges.{IsBetween}

-- p is no greater than q along any axis
pub record IsUnder (p q : Vector) : Type 0 where
  pub x : p.x ≤ℤ q.x
  pub y : p.y ≤ℤ q.y
  pub z : p.z ≤ℤ q.z

-- r is a corner of the box that p and q span: each of its coordinates is that of p or that of q
pub record IsCornerOf (p q r : Vector) : Type 0 where
  pub x : (r.x ≡ p.x) ⊎ (r.x ≡ q.x)
  pub y : (r.y ≡ p.y) ⊎ (r.y ≡ q.y)
  pub z : (r.z ≡ p.z) ⊎ (r.z ≡ q.z)

-- p is in the box from its lowest corner to its highest
pub record IsInBox (low high p : Vector) : Type 0 where
  pub x : IsBetween low.x p.x high.x
  pub y : IsBetween low.y p.y high.y
  pub z : IsBetween low.z p.z high.z
