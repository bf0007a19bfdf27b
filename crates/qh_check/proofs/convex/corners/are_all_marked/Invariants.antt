-- The corners of the triangles so far are marked.
use Rattle.{qh_model.proofs.Common.ℕ, qh_model.proofs.Common.take, qh_model.proofs.Common.IsCornerOf, qh_check.specs.steps.CornerMarks.IsMarked}
use Rattle.qh_check.proofs.convex.corners.are_all_marked.Given as goal

abbrev pub invariant-loop-t : goal.invariant-loop-t
invariant-loop-t l = (k : ℕ) → IsCornerOf (take l.t-index l.triangles) k → IsMarked l.marks k
