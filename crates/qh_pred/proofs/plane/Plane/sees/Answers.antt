use Rattle.qh_pred.proofs.PlaneHeights.{height_fits}
use Rattle.qh_pred.proofs.plane.Plane.sees.Goals as goal

pub returns : goal.returns
returns c = (height_fits _ c.args.self.now c.args.p c.reach.result c.self.invariant c.self.view_is c.reach.ensures.value c.reach.ensures.limit).sees
