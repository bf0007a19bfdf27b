use Rattle.{std.proofs.Common.take, qh_plane.specs.steps.Repeats.MarksWithout}
use Rattle.qh_plane.proofs.distinct_points.marks_without.Given as goal

abbrev pub invariant-loop-id : goal.invariant-loop-id
invariant-loop-id l = MarksWithout l.fn.count (take l.id-index l.ids) l.marks.items
