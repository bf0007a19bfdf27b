-- A plane whose normal is divided by a step, with its offset lowered by the room for the rests, is under the original plane.
use Rattle.qh_block.specs.{contract.CoarsePlanes.IsUnder, steps.CoarsePlanes.IsLowered, steps.CoarsePlanes.IsRest, steps.CoarsePlanes.IsRoomFor}
use Rattle.qh_model.proofs.Common.{◌≡◌, arith, ◌∙◌, ap, ints, ℤ, pos, ◌+ℤ◌, ◌-ℤ◌, ◌*ℤ◌, ◌≤ℤ◌, ◌<ℤ◌, Vector, dot, IsCoordinate}
use Rattle.qh_model.proofs.algebra.Integers.{add_mul, mul_add, mul_assoc, mul_comm, mul_one, mul_swap}
use Rattle.{qh_model.proofs.algebra.Order.mul-le, qh_model.specs.declared.limits.TheConstants.COORDINATE_LIMIT, qh_pred.specs.contract.Planes.PlaneValue}

-- the greatest coordinate
abbrev limit : ℤ
limit = pos COORDINATE_LIMIT

-- a product with a number is at most that with its steps, plus the rest times the greatest coordinate
product_at_most : (n m q r p : ℤ) → IsRest n q m r → IsCoordinate p → (n *ℤ p) ≤ℤ (m *ℤ (q *ℤ p) +ℤ r *ℤ limit)
product_at_most n m q r p d c =
    let finish : (a b c d e : ℤ) → a ≡ b +ℤ d → b ≡ c → d ≤ℤ e → a ≤ℤ (c +ℤ e) = λ a b c d e p q r. omega (arith, ints) in
    let rest : (r *ℤ p) ≤ℤ (r *ℤ limit) = mul-le r p limit d.1 (omega (arith, ints)) in
    let steps : q *ℤ m *ℤ p ≡ m *ℤ (q *ℤ p) = mul_assoc q m p ∙ mul_swap q m p in
    let parts : n *ℤ p ≡ q *ℤ m *ℤ p +ℤ r *ℤ p = ap (λ v. v *ℤ p) d.0 ∙ add_mul (q *ℤ m) r p in
    finish (n *ℤ p) (q *ℤ m *ℤ p) (m *ℤ (q *ℤ p)) (r *ℤ p) (r *ℤ limit) parts steps rest

-- a factor of three products
factor_of_three : (m a b c : ℤ) → m *ℤ (a +ℤ b +ℤ c) ≡ m *ℤ a +ℤ m *ℤ b +ℤ m *ℤ c
factor_of_three m a b c = mul_add m (a +ℤ b) c ∙ ap (λ v. v +ℤ m *ℤ c) (mul_add m a b)

-- a step below a number of steps
step_below : (m s e : ℤ) → pos 0 <ℤ m → s <ℤ e → (m *ℤ s +ℤ m) ≤ℤ (e *ℤ m)
step_below m s e h k =
    let finish : (a b c m f g : ℤ) → a ≤ℤ f → a ≡ b +ℤ c → c ≡ m → f ≡ g → (b +ℤ m) ≤ℤ g = λ a b c m f g p q r s. omega (arith, ints) in
    let more : (m *ℤ (s +ℤ pos 1)) ≤ℤ (m *ℤ e) = mul-le m (s +ℤ pos 1) e (omega (arith, ints)) (omega (arith, ints)) in
    finish (m *ℤ (s +ℤ pos 1)) (m *ℤ s) (m *ℤ pos 1) m (m *ℤ e) (e *ℤ m) more (mul_add m s (pos 1)) (mul_one m) (mul_comm m e)

-- the sum of the three bounds
sum_below : (a b c d e f u v w s m g o : ℤ) → a ≤ℤ (d +ℤ u) → b ≤ℤ (e +ℤ v) → c ≤ℤ (f +ℤ w)
    → s ≡ d +ℤ e +ℤ f → (s +ℤ m) ≤ℤ g → pos 0 <ℤ m → (g +ℤ (u +ℤ v +ℤ w)) ≤ℤ o → (a +ℤ b +ℤ c -ℤ o) <ℤ pos 0
sum_below a b c d e f u v w s m g o ha hb hc hs hg hm ho = omega (arith, ints)

-- so the plane of the steps is under the plane
pub steps_are_under : (plane coarse : PlaneValue) (m room : ℤ) → pos 0 <ℤ m → IsRoomFor plane.normal coarse.normal m room
    → IsLowered plane.offset room m coarse.offset → IsUnder plane coarse
steps_are_under plane coarse m room some has low p at h =
    let below : (s e : ℤ) → (s -ℤ e) <ℤ pos 0 → s <ℤ e = λ s e k. omega (arith, ints) in
    let q = coarse.normal in let n = plane.normal in let r = has.0 in let each = has.1 in
    let whole = factor_of_three m (q.x *ℤ p.x) (q.y *ℤ p.y) (q.z *ℤ p.z) in
    let step = step_below m (dot q p) coarse.offset some (below (dot q p) coarse.offset h) in
    let is : room ≡ r.x *ℤ limit +ℤ r.y *ℤ limit +ℤ r.z *ℤ limit = has.2 ∙ over_three r.x r.y r.z in
    sum_below (n.x *ℤ p.x) (n.y *ℤ p.y) (n.z *ℤ p.z) (m *ℤ (q.x *ℤ p.x)) (m *ℤ (q.y *ℤ p.y)) (m *ℤ (q.z *ℤ p.z))
    (r.x *ℤ limit) (r.y *ℤ limit) (r.z *ℤ limit) (m *ℤ dot q p) m (coarse.offset *ℤ m) plane.offset
    (product_at_most n.x m q.x r.x p.x each.x at.x) (product_at_most n.y m q.y r.y p.y each.y at.y) (product_at_most n.z m q.z r.z p.z each.z at.z)
    whole step some (rw is at low)
  where
    over_three : (a b c : ℤ) → (a +ℤ b +ℤ c) *ℤ limit ≡ a *ℤ limit +ℤ b *ℤ limit +ℤ c *ℤ limit
    over_three a b c = add_mul (a +ℤ b) c limit ∙ ap (λ v. v +ℤ c *ℤ limit) (add_mul a b limit)

-- the same for equal numbers
pub same_rest : (n q m r n' q' m' : ℤ) → n' ≡ n → q' ≡ q → m' ≡ m → IsRest n' q' m' r → IsRest n q m r
same_rest n q m r n' q' m' e f g h = rw (e, f, g) at h

-- the same for a product
pub same_product : (p a b a' b' : ℤ) → a' ≡ a → b' ≡ b → p ≡ a' *ℤ b' → p ≡ a *ℤ b
same_product p a b a' b' e f h = rw (e, f) at h

-- a number minus a product is a rest
pub rest_is : (n q m r p : ℤ) → p ≡ q *ℤ m → n ≡ p +ℤ r → pos 0 ≤ℤ r → IsRest n q m r
rest_is n q m r p is whole some = (rw is at whole, some)

-- the room of a sum
pub room_of : (x y z total room out : ℤ) → total ≡ x +ℤ y +ℤ z → room ≡ total *ℤ limit → out ≡ room → out ≡ (x +ℤ y +ℤ z) *ℤ limit
room_of x y z total room out is of e = e ∙ rw is at of

-- the same for equal steps
pub same_room : (n q : Vector) (m room m' : ℤ) → m' ≡ m → IsRoomFor n q m' room → IsRoomFor n q m room
same_room n q m room m' e h = rw e at h

-- the same for equal numbers
pub same_lowered : (o room m s room' m' s' : ℤ) → room' ≡ room → m' ≡ m → s' ≡ s → IsLowered o room' m' s → IsLowered o room m s'
same_lowered o room m s room' m' s' e f g h = rw g (rw (e, f) at h)
