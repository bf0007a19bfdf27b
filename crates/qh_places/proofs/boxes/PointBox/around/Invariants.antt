-- The points so far are within the box.
use Rattle.qh_places.specs.steps.Boxes.{IsBoxOf}
use Rattle.qh_places.proofs.boxes.PointBox.around.Given as goal

abbrev pub invariant-loop-point : goal.invariant-loop-point
invariant-loop-point l = IsBoxOf l.points 0 l.point-index l.bounds
