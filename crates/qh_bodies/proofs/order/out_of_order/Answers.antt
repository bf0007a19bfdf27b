-- One more polygon comes before the next.
use Rattle.std.proofs.Common.{arith}
use Rattle.qh_bodies.proofs.OrderedPolygons.{rises, ordered_more, unordered}
use Rattle.qh_bodies.proofs.order.out_of_order.Goals as goal

pub loop-next-preserved : goal.loop-next-preserved
loop-next-preserved c =
    let tells = rw (c.ids.ensures, c.ids-in-loop-next.ensures) at (c.comes_before.ensures.0 c.if-not-comes_before.false) in
    ordered_more _ _ _ _ c.loop-next.auto.next c.loop-next-test.true c.index-polygons-next.is
    c.index-polygons-next-in-loop-next.is tells c.loop-next.invariant

pub returns-then-not-comes_before : goal.returns-then-not-comes_before
returns-then-not-comes_before c =
    unordered _ _ _ _ c.loop-next.auto.next c.loop-next-test.true c.index-polygons-next.is
    c.index-polygons-next-in-loop-next.is
    (λ b. (let yes = c.comes_before.ensures.1 (rw (c.ids.ensures, c.ids-in-loop-next.ensures) b) in
    let n = c.if-not-comes_before.true in cc))

pub returns : goal.returns
returns c = rises c.args.polygons.now (λ n l. (let end = c.loop-next-test.false in
    c.loop-next.invariant n (omega (arith, l, end))))
