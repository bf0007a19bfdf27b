use Rattle.qh_model.proofs.surfaces.SurfaceLaws.{rise_is_vol}
use Rattle.qh_model.proofs.laws.surfaces.rise_is_vol.Goals as goal

pub returns : goal.returns
returns c = rise_is_vol
