use Rattle.qh_model.proofs.surfaces.SurfaceLaws.{horizon_goes_on, horizon_is_known}
use Rattle.qh_model.proofs.laws.surfaces.horizon_goes_round.Goals as goal

pub returns : goal.returns
returns c = record { goes_on = horizon_goes_on; known = horizon_is_known }
