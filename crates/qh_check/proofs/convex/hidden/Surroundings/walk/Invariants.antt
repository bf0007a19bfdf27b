-- The step stays one of ids of points.
use Rattle.{std.proofs.Common.length, qh_check.specs.steps.Hidden.IsStepBelow}
use Rattle.qh_check.proofs.convex.hidden.Surroundings.walk.Given as goal

abbrev pub invariant-loop-budget : goal.invariant-loop-budget
invariant-loop-budget l = IsStepBelow (length l.self.pts.now) l.step

abbrev pub decreases-loop-budget : goal.decreases-loop-budget
decreases-loop-budget l = l.budget
