-- One more level is over the points.
use Rattle.{qh_places.specs.steps.Levels.IsLevel, qh_model.proofs.Members.all_and}
use Rattle.qh_places.proofs.levels.levels_over.Goals as goal

pub loop-shift-preserved : goal.loop-shift-preserved
loop-shift-preserved c = rw c.in_ok-push.ensures.items (all_and (IsLevel c.args.points.now) _ _ c.loop-shift.invariant c.in_ok-over.ensures)
