-- A box whose furthest corner is below a plane is below it.
use Rattle.qh_model.proofs.Common.{arith, ints, pos, ◌<ℤ◌}
use Rattle.qh_pred.proofs.Ranges.{below_by_corner}
use Rattle.qh_places.proofs.boxes.PointBox.is_below.Goals as goal

pub returns : goal.returns
returns c t =
    let negative : c.height.result <ℤ pos 0 = grind (arith, ints, t) in let far = c.far_corner.ensures in
    below_by_corner c.args.self.now.low c.args.self.now.high c.args.plane.now c.normal.result c.far_corner.result c.normal.ensures far.x far.y far.z
    (rw c.height.ensures at negative)
