-- Each mark is that of a corner of one of the triangles so far.
use Rattle.qh_model.proofs.Common.{ℕ, ◌≡◌, length, take, IsCornerOf}
use Rattle.qh_check.specs.steps.CornerMarks.{IsMarked}
use Rattle.qh_check.proofs.convex.corners.marks_of_corners.Given as goal

abbrev pub invariant-loop-t : goal.invariant-loop-t
invariant-loop-t l = (length l.marks.items ≡ length l.pts) × ((k : ℕ) → IsMarked l.marks.items k → IsCornerOf (take l.t-index l.triangles) k)
