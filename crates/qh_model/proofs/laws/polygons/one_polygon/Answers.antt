use Rattle.qh_model.proofs.polygons.Unique.{polygon_is_unique}
use Rattle.qh_model.proofs.laws.polygons.one_polygon.Goals as goal

pub returns : goal.returns
returns c = polygon_is_unique
