use Rattle.qh_model.proofs.combinations.Alternatives.{combination_or_separator, never_both}
use Rattle.qh_model.proofs.laws.combinations.combination_or_separator.Goals as goal

pub returns : goal.returns
returns c = record { either = combination_or_separator; never_both = never_both }
