use Rattle.qh_model.proofs.surfaces.Closed.{sound_is_closed, sound_has_volume}
use Rattle.qh_model.proofs.laws.closed_surfaces.sound_surface_closes.Goals as goal

pub returns : goal.returns
returns c = record { closed = sound_is_closed; volume = sound_has_volume }
