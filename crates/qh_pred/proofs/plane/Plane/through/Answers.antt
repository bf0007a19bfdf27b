use Rattle.qh_pred.proofs.PlaneHeights.{stored_height}
use Rattle.qh_pred.proofs.plane.Plane.through.Goals as goal

pub returns : goal.returns
returns c =
    stored_height c.args.a c.args.b c.args.c c.product-normal.result c.of_point.result c.x.result c.y.result c.z.result c.dot.result
    c.product-normal.ensures c.of_point.ensures c.x.ensures.limit c.x.ensures.value c.y.ensures.value c.z.ensures.value c.dot.ensures.value c.dot.ensures.limit
