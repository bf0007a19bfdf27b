-- The hull of a set in one plane, from the normal of three of its ids.
use Rattle.qh_model.proofs.Common.{◌≡◌, ◌⊎◌, length, subst, IfOk-weaker, place, cross, Vector, origin, minus}
use Rattle.{qh_polygon.proofs.ShapeDimension.flat, qh_block.specs.steps.FlatBodies.IsFlatBody}
use Rattle.qh_block.proofs.flats.Polygons.{planar, polygon_is_body}
use Rattle.qh_block.proofs.flat_sets.polygon_hull.Goals as goal

pub returns : goal.returns
returns c =
    let pts = c.args.set.pts.now in let ids = c.args.set.ids.now in let i = c.args.i in let j = c.args.j in let k = c.args.k in
    let n = c.forward-normal.result in let q = c.in_ok-polygon.polygon in
    let two = c.requires.two in let off = c.requires.off_line in let plane = c.requires.plane in
    let is : c.cross.result ≡ cross (place pts i) (place pts j) (place pts k) =
    cc (c.cross.ensures, c.point_at.ensures, c.point_at-2.ensures, c.point_at-3.ensures) in
    let side = subst (λ (v : Vector). (n ≡ v) ⊎ (n ≡ minus origin v)) is c.forward-normal.ensures.side in
    IfOk-weaker c.flat_body.result _ _ (λ b h s. (let p = planar pts ids i j k n two off plane side s in
    polygon_is_body pts ids n p c.forward-normal.ensures.forward q (c.in_ok-polygon.ensures p) b (flat pts ids i j k two off plane)
    (subst (λ l. IsFlatBody 2 q (length l) b) c.ids.ensures h)))
    c.flat_body.ensures
