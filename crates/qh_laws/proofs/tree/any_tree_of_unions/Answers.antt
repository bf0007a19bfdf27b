use Rattle.qh_laws.proofs.Trees.{any_tree_of_unions, hull_of_any_tree}
use Rattle.qh_laws.proofs.tree.any_tree_of_unions.Goals as goal

pub returns-clause-extremes : goal.returns-clause-extremes
returns-clause-extremes c = any_tree_of_unions

pub returns-clause-hull : goal.returns-clause-hull
returns-clause-hull c = hull_of_any_tree
