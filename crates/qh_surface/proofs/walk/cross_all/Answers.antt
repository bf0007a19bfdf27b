-- Three sides, one after the other.
use Rattle.qh_surface.proofs.WalkSteps.{further_trans}
use Rattle.qh_surface.proofs.walk.cross_all.Goals as goal

pub returns-clause-further : goal.returns-clause-further
returns-clause-further g c =
    further_trans _ _ _ _ _ _ (further_trans _ _ _ _ _ _ (rw c.in_ok-reserve.ensures.items at c.cross.ensures.further)
    c.cross-2.ensures.further) c.cross-3.ensures.further
