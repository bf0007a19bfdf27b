use Rattle.qh_model.proofs.surfaces.Rewired.{replace_keeps}
use Rattle.qh_model.proofs.laws.surfaces.replace_keeps.Goals as goal

pub returns : goal.returns
returns c = replace_keeps
