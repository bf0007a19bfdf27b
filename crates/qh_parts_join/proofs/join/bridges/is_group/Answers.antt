-- One more polygon is a face.
use Rattle.{qh_places.proofs.Listed.all_ends, qh_places.proofs.Listed.all_goes, qh_parts_join.specs.steps.Bridges.IsBridge}
use Rattle.qh_parts_join.proofs.join.bridges.is_group.Goals as goal

pub loop-claimed-preserved : goal.loop-claimed-preserved
loop-claimed-preserved c =
    all_goes (IsBridge c.args.kept.pts.now c.args.kept.corners.now c.args.kept.shared.now) _ _ c.claimed-item.result c.loop-claimed.invariant
    c.loop-claimed-test.true c.claimed-item.is (c.in_ok-yes.ensures c.if-not-yes.false)

pub returns : goal.returns
returns c = λ _.
    all_ends (IsBridge c.args.kept.pts.now c.args.kept.corners.now c.args.kept.shared.now) _ _ c.loop-claimed-test.false c.loop-claimed.invariant
