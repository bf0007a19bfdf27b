use Rattle.qh_model.proofs.surfaces.Complete.{finished_is_solid, extremes_of_corners, extremes_of_plane, polygons_of_facets}
use Rattle.qh_model.proofs.laws.completeness.finished_surface_is_hull.Goals as goal

pub returns : goal.returns
returns c = record { dimension = finished_is_solid; extremes = extremes_of_corners; plane_extremes = extremes_of_plane; polygons = polygons_of_facets }
