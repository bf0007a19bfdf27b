use Rattle.qh_model.proofs.laws.extremes.union_extremes.Goals as goal
use Rattle.qh_model.proofs.extremes.{ExtremeIds.union_of_extremes, SameDimension.dimension_of_extremes}
use Rattle.qh_model.proofs.hulls.OfExtremes.{polygons_of_extremes, body_of_extremes}

pub returns : goal.returns
returns c = record { union = union_of_extremes; dimension = dimension_of_extremes; polygons = polygons_of_extremes; hull = body_of_extremes }
