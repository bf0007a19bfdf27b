use Rattle.qh_model.proofs.surfaces.Finished.{facets_support, extremes_are_corners, extremes_of_plane_are_corners, planes_have_facets}
use Rattle.qh_model.proofs.laws.completeness.nothing_is_missed.Goals as goal

pub returns : goal.returns
returns c = record { facets = facets_support; corners = extremes_are_corners; plane_corners = extremes_of_plane_are_corners; planes = planes_have_facets }
