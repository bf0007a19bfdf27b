use Rattle.qh_laws_surface.proofs.HullSurface.{body_is_surface, fans_are_surface}
use Rattle.qh_laws_surface.proofs.hull_is_surface.Goals as goal

pub returns : goal.returns
returns c = record { faces = body_is_surface; fans = fans_are_surface }
