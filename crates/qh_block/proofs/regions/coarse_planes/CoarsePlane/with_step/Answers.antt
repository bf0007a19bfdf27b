-- The plane of the whole steps, with room for the rests.
use Rattle.qh_model.proofs.Common.{◌≡◌, ◌^◌, arith, lit<, subst, sym, ints, to_z-of_z, w64, w128, to_z, of_z}
use Rattle.{qh_pred.proofs.Bounds.fits_wide, qh_block.specs.contract.CoarsePlanes.IsUnder}
use Rattle.qh_block.proofs.CoarsePlanes.{same_lowered, same_room, steps_are_under}
use Rattle.qh_block.proofs.regions.coarse_planes.CoarsePlane.with_step.Goals as goal

pub returns : goal.returns
returns c =
    let tip = c.in_ok-tip.tip in let offset = c.in_ok-offset.offset in let room = c.in_ok-room.room in let step = c.args.step in
    let step_is : to_z w64 (of_z w64 step) ≡ step = omega (arith, ints) in
    let room_is = to_z-of_z w128 room (fits_wide room (2 ^ 96) c.in_ok-room.ensures.limit (lit< tt)) in
    let same : to_z w64 (of_z w64 offset) ≡ offset = omega (arith, ints, c.in_ok-offset.ensures.range.0, c.in_ok-offset.ensures.range.1) in
    let has = same_room c.normal-normal.result tip step room _ step_is c.in_ok-room.ensures.room in
    let low = same_lowered c.args.plane.now.offset room step offset _ _ (to_z w64 (of_z w64 offset)) room_is step_is same c.in_ok-offset.ensures.low in
    subst (IsUnder c.args.plane.now) (sym c.new.ensures)
    (steps_are_under c.args.plane.now (record { normal = tip; offset = to_z w64 (of_z w64 offset) }) step room
    (omega (arith, ints, c.if-step-le0.false)) (rw c.normal-normal.ensures at has) low)
