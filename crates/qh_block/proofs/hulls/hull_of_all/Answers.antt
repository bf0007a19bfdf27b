-- The hull of a point, and that of a solid from its finished mesh.
use Rattle.std.proofs.{Common.subst, lemmas.Result.IfOk-weaker}
use Rattle.{qh_model.proofs.Members.rising_once, qh_block.specs.steps.FlatBodies.IsFlatBody, qh_block.proofs.flats.Bodies.point_is_body}
use Rattle.qh_block.proofs.hulls.hull_of_all.Goals as goal

pub returns-in_ok-polygon_of-in-Point : goal.returns-in_ok-polygon_of-in-Point
returns-in_ok-polygon_of-in-Point c =
    let shape = c.in-Point.ensures.shape in
    IfOk-weaker c.flat_body.result _ _
    (λ b h s. point_is_body c.args.set.pts.now c.args.set.ids.now b c.in-Point.i shape.0 shape.1 (c.in-Point.ensures.dimension s)
    (subst (λ q. IsFlatBody 0 q 0 b) c.in_ok-polygon_of-in-Point.ensures h))
    c.flat_body.ensures

pub returns-in_ok-surface-in-Solid : goal.returns-in_ok-surface-in-Solid
returns-in_ok-surface-in-Solid c =
    let ids = c.args.set.ids.now in
    IfOk-weaker c.solid_body.result _ _ (λ b h s. h ids s (c.in_ok-surface-in-Solid.ensures.finished (rising_once ids s.rising))) c.solid_body.ensures
