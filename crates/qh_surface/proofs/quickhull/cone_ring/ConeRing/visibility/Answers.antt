-- A point between three rays is above no facet of the cone.
use Rattle.{std.proofs.Common.arith, qh_model.proofs.algebra.Signs.at_most_zero, qh_surface.proofs.runs.ConeRings.among}
use Rattle.qh_surface.proofs.quickhull.cone_ring.ConeRing.visibility.Goals as goal

pub returns-then-is_between : goal.returns-then-is_between
returns-then-is_between c =
    let e = c.is_between.ensures in let true = c.if-is_between.true in
    among c.place_of-place.result c.wedge-first.result.now c.wedge-wedge.result.now c.through-half.result
    (omega (arith, c.if-place-count.false, c.len-count.ensures)) c.wedge-first.ensures c.wedge-wedge.ensures c.requires
    c.through-half.ensures (e.spans true) (at_most_zero _ (λ h. let b = c.sees-3.ensures.1 h in let d = c.if-sees-3.false in cc)) (e.from true) (e.to true)
