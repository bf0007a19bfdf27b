-- Points that the corner box holds are not extreme in the set.
use Rattle.qh_block.{specs.contract.CornerBoxes.IsHeldBy, proofs.CornerBoxes.box_has_no_extreme, proofs.InnerPoints.kept_part}
use Rattle.qh_block.proofs.interior.culling.ids_outside_box.Goals as goal

pub returns-clause-part : goal.returns-clause-part
returns-clause-part c =
    let pts = c.args.set.pts.now in let ids = c.args.set.ids.now in let b = c.of-corner_box.result.bounds in
    kept_part pts (IsHeldBy b) ids c.in_ok-outer.outer.items (box_has_no_extreme pts ids b c.of-corner_box.ensures) c.in_ok-outer.ensures
