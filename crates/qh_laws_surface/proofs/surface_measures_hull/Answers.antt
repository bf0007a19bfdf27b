use Rattle.qh_laws_surface.proofs.{Areas.areas_add_up, Volumes.volumes_add_up}
use Rattle.qh_laws_surface.proofs.surface_measures_hull.Goals as goal

pub returns : goal.returns
returns c = record { areas = areas_add_up; volume = volumes_add_up }
