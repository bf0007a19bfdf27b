-- Turns in a plane, determined by one component of its normal.
use Rattle.std.specs.Prelude.{ℤ, pos, ◌≡◌, ◌≢◌, ◌*ℤ◌, if◌then◌else◌}
use Rattle.std.specs.{Ordering.int_cmp, Ordering.int_eq, declared.cmp.Ordering.Ordering}
use Rattle.qh_model.specs.headline.Vector.{Vector, origin, minus, dot}

-- the order of a number relative to 0
abbrev pub sign : ℤ → Ordering
sign z = int_cmp z (pos 0)

-- n is not zero, and u, v and w lie in a plane of normal n
pub record IsAcross (n u v w : Vector) : Type 0 where
  pub some : n ≢ origin
  pub to_v : dot n (minus v u) ≡ pos 0
  pub to_w : dot n (minus w u) ≡ pos 0

-- the first component of n that is not 0, times the same component of m
abbrev pub first_product : Vector → Vector → ℤ
first_product n m =
    if int_eq n.x (pos 0) then (if int_eq n.y (pos 0) then n.z *ℤ m.z else n.y *ℤ m.y) else n.x *ℤ m.x
