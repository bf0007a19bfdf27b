-- One more group consists of faces.
use Rattle.{std.proofs.Common.arith, qh_model.proofs.Members.All-In, qh_model.proofs.Members.All-of, qh_parts_join.specs.steps.Bridges.IsBridge}
use Rattle.qh_parts_join.proofs.Runs.{left_at_start, left_behind, all_done}
use Rattle.qh_parts_join.proofs.join.bridges.are_faces.Goals as goal

pub loop-rest-init : goal.loop-rest-init
loop-rest-init c = left_at_start _ c.args.polygons.now

pub loop-rest-preserved : goal.loop-rest-preserved
loop-rest-preserved c =
    left_behind _ _ _ _ _ _ c.loop-rest.invariant c.split_at.ensures.front c.split_at.ensures.back
    (λ q m. All-In (IsBridge c.args.kept.pts.now c.args.kept.corners.now c.args.kept.shared.now) _ q (c.in_ok-yes.ensures c.if-not-yes.false) m)

pub returns : goal.returns
returns c = λ _.
    All-of (IsBridge c.args.kept.pts.now c.args.kept.corners.now c.args.kept.shared.now) c.args.polygons.now
    (all_done _ _ _ c.loop-rest.invariant (omega (arith, c.loop-rest-test.false)))
