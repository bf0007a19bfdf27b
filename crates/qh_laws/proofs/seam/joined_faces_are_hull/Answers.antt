use Rattle.qh_laws.proofs.Joined.{joined_are_faces, joined_have_extremes, part_is_solid}
use Rattle.qh_laws.proofs.seam.joined_faces_are_hull.Goals as goal

pub returns : goal.returns
returns c = record { faces = joined_are_faces; extremes = joined_have_extremes; dimension = part_is_solid }
