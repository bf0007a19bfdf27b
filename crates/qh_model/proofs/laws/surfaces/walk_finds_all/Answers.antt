use Rattle.qh_model.proofs.surfaces.SurfaceLaws.{walk_finds_all}
use Rattle.qh_model.proofs.laws.surfaces.walk_finds_all.Goals as goal

pub returns : goal.returns
returns c = walk_finds_all
