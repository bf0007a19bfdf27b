use Rattle.qh_laws.proofs.{Parts.extremes_are_kept, Joined.faces_of_kept}
use Rattle.qh_laws.proofs.seam.corners_are_enough.Goals as goal

pub returns : goal.returns
returns c = record { extremes = extremes_are_kept; faces = faces_of_kept }
