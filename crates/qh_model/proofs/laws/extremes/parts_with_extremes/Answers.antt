use Rattle.qh_model.proofs.hulls.SameSets.{extremes_of_part, body_of_part}
use Rattle.qh_model.proofs.laws.extremes.parts_with_extremes.Goals as goal

pub returns : goal.returns
returns c = record { extremes = extremes_of_part; hull = body_of_part }
