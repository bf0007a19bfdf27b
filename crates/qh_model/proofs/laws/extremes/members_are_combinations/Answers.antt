use Rattle.qh_model.proofs.extremes.ExtremeIds.{members_are_combinations}
use Rattle.qh_model.proofs.laws.extremes.members_are_combinations.Goals as goal

pub returns : goal.returns
returns c = members_are_combinations
