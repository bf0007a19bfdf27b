use Rattle.qh_laws_surface.proofs.CoveredSurfaces.{covering_is_surface as law}
use Rattle.qh_laws_surface.proofs.cover.covering_is_surface.Goals as goal

pub returns : goal.returns
returns c = law
