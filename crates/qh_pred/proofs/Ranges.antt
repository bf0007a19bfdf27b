-- Products over a range of numbers: the greatest is at an end of the range, and the greatest over a box is at a corner.
use Rattle.qh_model.proofs.Common.{◌≡◌, arith, ints, by_lt_z, ℤ, pos, ◌*ℤ◌, neg_ℤ, ◌≤ℤ◌, ◌<ℤ◌, Vector}
use Rattle.qh_model.proofs.algebra.{Order.mul-le, Integers.neg_mul}
use Rattle.qh_pred.specs.contract.{Corners.IsInBox, Planes.PlaneValue, Planes.height, Ranges.IsBetween, Ranges.IsFarEnd}

-- products beyond the end of a range to which a factor points are at least those in the range: beyond the greatest number for a factor above 0, and beyond the
-- least number for a factor not above 0
pub beyond : (a l h n e : ℤ) → (pos 0 <ℤ a → h ≤ℤ e) → (a ≤ℤ pos 0 → e ≤ℤ l) → IsBetween l n h → (a *ℤ n) ≤ℤ (a *ℤ e)
beyond a l h n e above below in_range =
    let least = in_range.0 in let most = in_range.1 in
    by_lt_z (pos 0) a
    (λ up. let q = above up in mul-le a n e (omega (arith, ints)) (omega (arith, ints)))
    (λ down. let q = below down in let more = mul-le (neg_ℤ a) e n (omega (arith, ints)) (omega (arith, ints)) in
    omega (arith, ints, neg_mul a e, neg_mul a n, more))

-- so the product with the far end of a range is the greatest
pub greatest : (a l h e n : ℤ) → IsFarEnd a l h e → IsBetween l n h → (a *ℤ n) ≤ℤ (a *ℤ e)
greatest a l h e n far in_range =
    beyond a l h n e (λ up. let q = far.0 up in omega (arith, ints)) (λ down. let q = far.1 down in omega (arith, ints)) in_range

-- a box is below a plane if its corner that lies furthest along the normal is
pub below_by_corner : (low high : Vector) (plane : PlaneValue) (n q : Vector) → n ≡ plane.normal
    → IsFarEnd n.x low.x high.x q.x → IsFarEnd n.y low.y high.y q.y → IsFarEnd n.z low.z high.z q.z
    → height plane q <ℤ pos 0 → (p : Vector) → IsInBox low high p → height plane p <ℤ pos 0
below_by_corner low high plane n q e x y z h p w =
    let at_x = rw e at (greatest n.x low.x high.x q.x p.x x w.x) in
    let at_y = rw e at (greatest n.y low.y high.y q.y p.y y w.y) in
    let at_z = rw e at (greatest n.z low.z high.z q.z p.z z w.z) in omega (arith, ints, at_x, at_y, at_z, h)
