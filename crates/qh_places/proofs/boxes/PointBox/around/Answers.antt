-- One more point is within the box.
use Rattle.qh_places.proofs.PointBoxes.{box_grows, box_whole}
use Rattle.qh_places.proofs.boxes.PointBox.around.Goals as goal

pub loop-point-preserved : goal.loop-point-preserved
loop-point-preserved c =
    box_grows _ _ _ _ _ c.loop-point.invariant c.with-bounds.ensures.others c.loop-point-test.true c.point-item.is
    c.with-bounds.ensures.own

pub returns : goal.returns
returns c = box_whole _ _ _ c.loop-point.invariant c.loop-point-test.false
