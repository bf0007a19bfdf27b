-- The sum of the bounds along the three axes.
use Rattle.qh_model.proofs.Common.{◌≡◌, ◌<◌, ◌^◌, ℤ, ◌-ℤ◌, arith, ints, rules, mag, to_z, of_z, to_z-of_z, w16, w32, w64, w128, SFits}
use Rattle.qh_places.proofs.BundleSlabs.{way_between, three_below}
use Rattle.qh_places.proofs.bundles.Bundle.far_rest.Goals as goal

-- a difference as code reads it from two coordinates
way : (a b x y w : ℤ) → mag x < 2 ^ 31 → mag y < 2 ^ 31 → mag w < 2 ^ 63 → x ≡ a → y ≡ b → w ≡ to_z w32 (of_z w32 y) -ℤ to_z w32 (of_z w32 x)
    → to_z w64 (of_z w64 w) ≡ b -ℤ a
way a b x y w f g h p q r = omega (arith, ints)

pub returns-clause-value : goal.returns-clause-value
returns-clause-value c = λ n p spans within.
    let o = c.args.self.now.origin in let b = c.args.bounds.now in
    let ft : SFits w64 c.args.times = c.ranges.times in
    let kx : SFits w16 c.args.along.x = search rules in
    let ky : SFits w16 c.args.along.y = search rules in
    let kz : SFits w16 c.args.along.z = search rules in
    let fx : SFits w128 c.far_rest.result = record { sfits = c.far_rest.type_inv } in
    let fy : SFits w128 c.far_rest-2.result = record { sfits = c.far_rest-2.type_inv } in
    let fz : SFits w128 c.far_rest-3.result = record { sfits = c.far_rest-3.type_inv } in
    let sum : SFits w128 c.sum.result = record { sfits = c.sum.type_inv } in
    let x = simp to_z-of_z at (c.far_rest.ensures.value n.x (p.x -ℤ o.x) spans.x (way_between b.low.x p.x b.high.x o.x _ _
    (way _ _ _ _ _ c.x.type_inv c.x-2.type_inv c.way.type_inv c.x.ensures.value c.x-2.ensures.value c.way.ensures.value)
    (way _ _ _ _ _ c.x-3.type_inv c.x-4.type_inv c.way-2.type_inv c.x-3.ensures.value c.x-4.ensures.value c.way-2.ensures.value) within.x)) in
    let y = simp to_z-of_z at (c.far_rest-2.ensures.value n.y (p.y -ℤ o.y) spans.y (way_between b.low.y p.y b.high.y o.y _ _
    (way _ _ _ _ _ c.y.type_inv c.y-2.type_inv c.way-3.type_inv c.y.ensures.value c.y-2.ensures.value c.way-3.ensures.value)
    (way _ _ _ _ _ c.y-3.type_inv c.y-4.type_inv c.way-4.type_inv c.y-3.ensures.value c.y-4.ensures.value c.way-4.ensures.value) within.y)) in
    let z = simp to_z-of_z at (c.far_rest-3.ensures.value n.z (p.z -ℤ o.z) spans.z (way_between b.low.z p.z b.high.z o.z _ _
    (way _ _ _ _ _ c.z.type_inv c.z-2.type_inv c.way-5.type_inv c.z.ensures.value c.z-2.ensures.value c.way-5.ensures.value)
    (way _ _ _ _ _ c.z-3.type_inv c.z-4.type_inv c.way-6.type_inv c.z-3.ensures.value c.z-4.ensures.value c.way-6.ensures.value) within.z)) in
    simp to_z-of_z (three_below _ _ _ _ _ _ c.sum.result (simp to_z-of_z at c.sum.ensures.value) x y z)
