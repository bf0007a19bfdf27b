-- Each mark is that of one of the ids so far.
use Rattle.qh_model.proofs.Common.{ℕ, ◌≡◌, length, take, In}
use Rattle.qh_check.specs.steps.CornerMarks.{IsMarked}
use Rattle.qh_check.proofs.convex.corners.marks_of_ids.Given as goal

abbrev pub invariant-loop-id : goal.invariant-loop-id
invariant-loop-id l = (length l.marks.items ≡ length l.pts) × ((k : ℕ) → IsMarked l.marks.items k → In k (take l.id-index l.ids))
