use Rattle.qh_laws.proofs.{LevelPoints.sides_hide_rest, Between.level_is_in_polygon}
use Rattle.qh_laws.proofs.seam.sides_hide_rest.Goals as goal

pub returns : goal.returns
returns c = record { below = sides_hide_rest; polygon = level_is_in_polygon }
