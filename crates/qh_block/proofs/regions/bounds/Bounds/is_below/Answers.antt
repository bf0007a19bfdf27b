-- A box whose furthest corner is below a plane is below it.
use Rattle.{std.proofs.Common.refl, qh_pred.proofs.Ranges.below_by_corner}
use Rattle.qh_block.proofs.regions.bounds.Bounds.is_below.Goals as goal

pub returns : goal.returns
returns c t =
    let far = c.far_corner.ensures in
    below_by_corner c.args.self.now.low c.args.self.now.high c.args.plane.now c.args.plane.now.normal c.far_corner.result refl far.x far.y far.z
    (c.is_above.ensures.below.0 t)
