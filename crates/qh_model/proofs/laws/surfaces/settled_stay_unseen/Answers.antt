use Rattle.qh_model.proofs.laws.surfaces.settled_stay_unseen.Goals as goal
use Rattle.qh_model.proofs.surfaces.{SurfaceLaws.corners_are_settled, SurfaceLaws.added_is_settled, SurfaceLaws.settled_stay_unseen, Unseen.dropped_stay_unseen}

pub returns : goal.returns
returns c = record { corners = corners_are_settled; added = added_is_settled; settled = settled_stay_unseen; dropped = dropped_stay_unseen }
