-- The ids in the plane are ids that the places hold, or shared ids.
use Rattle.qh_model.proofs.Common.{[], flat_map}
use Rattle.qh_parts_join.{specs.contract.Kept.held_in, proofs.LevelPlanes.none_level, proofs.LevelPlanes.level_for, proofs.BridgeLevels.held_kept}
use Rattle.qh_parts_join.proofs.join.bridges.level_of.Goals as goal

pub returns-clause-level : goal.returns-clause-level
returns-clause-level c = λ kept keeps.
    let pts = c.args.kept.pts.now in let corners = c.args.kept.corners.now in let plane = c.args.plane.now in
    let own = rw c.requires at (c.in_ok-own.ensures c.if-not-own.false pts) in
    let started = own c.args.kept.corners_in [] (rw c.new-level.ensures.items (none_level pts plane)) in
    let all = c.in_ok-shared.ensures c.if-not-shared.false (flat_map held_in corners) started in
    level_for pts plane _ kept _ c.in_ok-rising.rising.items all (held_kept corners c.args.kept.shared.now kept keeps)
    (rw c.deref.ensures.value at c.in_ok-rising.ensures.members)
