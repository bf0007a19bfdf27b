-- Those of the ids so far that are not marked.
use Rattle.{std.proofs.Common.◌≡◌, std.proofs.Common.filter, std.proofs.Common.take, qh_check.specs.steps.CornerMarks.is_unmarked}
use Rattle.qh_check.proofs.convex.corners.unmarked.Given as goal

abbrev pub invariant-loop-id : goal.invariant-loop-id
invariant-loop-id l = l.left.items ≡ filter (is_unmarked l.marks) (take l.id-index l.ids)
