use Rattle.qh_model.proofs.extremes.ExtremeIds.{greatest_is_extreme}
use Rattle.qh_model.proofs.laws.extremes.greatest_is_extreme.Goals as goal

pub returns : goal.returns
returns c = greatest_is_extreme
