use Rattle.qh_pred.proofs.PlaneHeights.{height_fits}
use Rattle.qh_pred.proofs.plane.Plane.height.Goals as goal

pub overflow_sub-result : goal.overflow_sub-result
overflow_sub-result c = (height_fits _ c.args.self.now c.args.p c.reach.result c.self.invariant c.self.view_is c.reach.ensures.value c.reach.ensures.limit).fits

pub returns : goal.returns
returns c = (height_fits _ c.args.self.now c.args.p c.reach.result c.self.invariant c.self.view_is c.reach.ensures.value c.reach.ensures.limit).value
