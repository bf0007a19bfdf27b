-- The corners of the current triangle are marked too.
use Rattle.{std.proofs.Common.◌∙◌, std.proofs.lemmas.List.length-set, qh_check.proofs.Marks.marked_corners}
use Rattle.qh_check.proofs.convex.corners.marks_of_corners.Goals as goal

pub loop-t-preserved : goal.loop-t-preserved
loop-t-preserved c = (
  simp length-set c.loop-t.invariant.0,
  marked_corners c.loop-t.marks.items c.args.triangles.now c.loop-t.t-index c.t-item.result c.index.result c.index-in-loop-t.result c.index-in-loop-t-2.result
      c.loop-t-test.true c.t-item.is (c.index.ensures ∙ c.i.ensures) (c.index-in-loop-t.ensures ∙ c.j.ensures) (c.index-in-loop-t-2.ensures ∙ c.k.ensures)
      c.loop-t.invariant.1,
)
