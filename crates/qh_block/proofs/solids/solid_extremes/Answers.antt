-- The members of the faces are the extreme ids.
use Rattle.qh_block.proofs.finished.SolidBodies.{extremes}
use Rattle.qh_block.proofs.solids.solid_extremes.Goals as goal

pub returns : goal.returns
returns c = λ ids s z. let found = c.in_ok-tally.ensures in
    extremes _ ids _ s z _ (c.in_ok-faces.ensures ids s z) _ found.rising found.members
