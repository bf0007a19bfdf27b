-- The ends of the diagonals so far are points of the set.
use Rattle.qh_block.specs.steps.CornerBoxes.{HasEndsOf}
use Rattle.qh_block.proofs.regions.corner_box.CornerBox.of.Given as goal

abbrev pub invariant-loop-id : goal.invariant-loop-id
invariant-loop-id l = HasEndsOf l.set.pts.now l.set.ids.now l.diagonals
