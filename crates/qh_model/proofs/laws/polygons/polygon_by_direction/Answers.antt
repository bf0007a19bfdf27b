use Rattle.qh_model.proofs.polygons.Direction.{polygon_by_direction}
use Rattle.qh_model.proofs.laws.polygons.polygon_by_direction.Goals as goal

pub returns : goal.returns
returns c = polygon_by_direction
