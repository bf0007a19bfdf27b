use Rattle.qh_model.proofs.extremes.Faces.{extremes_of_face, support_of_extremes}
use Rattle.qh_model.proofs.laws.extremes.extremes_of_faces.Goals as goal

pub returns : goal.returns
returns c = record { face = extremes_of_face; support = support_of_extremes }
