-- The corners of the current triangle are marked.
use Rattle.qh_check.{specs.steps.CornerMarks.IsMarked, proofs.Marks.corners_more}
use Rattle.qh_check.proofs.convex.corners.are_all_marked.Goals as goal

pub loop-t-preserved : goal.loop-t-preserved
loop-t-preserved c =
    let m = c.are_marked.ensures c.if-not-are_marked.false in
    corners_more (IsMarked c.args.marks.now) c.args.triangles.now c.loop-t.t-index c.t-item.result c.loop-t-test.true c.t-item.is
    c.loop-t.invariant m.0 m.1 m.2
