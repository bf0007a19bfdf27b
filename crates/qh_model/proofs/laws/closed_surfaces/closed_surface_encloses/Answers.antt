use Rattle.qh_model.proofs.laws.closed_surfaces.closed_surface_encloses.Goals as goal
use Rattle.qh_model.proofs.closed_surfaces.{Cancellation.none_below_and_beyond, SignedVolume.volume_is_constant}

pub returns : goal.returns
returns c = record { volume = volume_is_constant; apart = none_below_and_beyond }
