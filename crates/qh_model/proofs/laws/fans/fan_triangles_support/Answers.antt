use Rattle.qh_model.proofs.polygons.Fans.{corners_support, fans_support}
use Rattle.qh_model.proofs.laws.fans.fan_triangles_support.Goals as goal

pub returns : goal.returns
returns c = record { corners = corners_support; fans = fans_support }
