use Rattle.qh_model.proofs.polygons.EdgeCounts.{edges_are_counted}
use Rattle.qh_model.proofs.laws.fans.edges_are_counted.Goals as goal

pub returns : goal.returns
returns c = edges_are_counted
