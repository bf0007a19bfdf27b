-- Each end of a diagonal is the point of an id of the set, and lies in the octant of its corner.
use Rattle.qh_model.proofs.Common.{get_or, sym, subst, In}
use Rattle.{qh_model.proofs.Members.In-get_or, qh_block.proofs.CornerBoxes.ends_are_outward}
use Rattle.qh_block.proofs.regions.corner_box.CornerBox.of.Goals as goal

pub loop-id-init : goal.loop-id-init
loop-id-init c =
    let ids = c.args.set.ids.now in let i = c.index-set-0 in
    c.at-diagonals.ensures c.args.set.pts.now ids (get_or ids 0 i.result, In-get_or ids 0 i.result c.requires, sym c.point_at.ensures)

pub loop-id-preserved : goal.loop-id-preserved
loop-id-preserved c =
    let ids = c.args.set.ids.now in let i = c.id-item in
    c.see.ensures c.args.set.pts.now ids c.loop-id.invariant
    (i.result, subst (λ v. In v ids) (sym i.is) (In-get_or ids c.loop-id.id-index _ c.loop-id-test.true), sym c.point_at-in-loop-id.ensures)

pub returns : goal.returns
returns c = ends_are_outward c.args.set.pts.now c.args.set.ids.now c.loop-id.diagonals c.bounds.result c.loop-id.invariant c.bounds.ensures
