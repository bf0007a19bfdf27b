use Rattle.qh_model.proofs.hulls.RightValues.{right_of_leaf, right_of_node, hull_of_root}
use Rattle.qh_model.proofs.laws.cuts.right_values_rise.Goals as goal

pub returns : goal.returns
returns c = record { leaf = right_of_leaf; node = right_of_node; root = hull_of_root }
