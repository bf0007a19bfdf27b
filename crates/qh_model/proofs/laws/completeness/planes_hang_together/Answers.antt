use Rattle.qh_model.proofs.surfaces.FacetPlanes.{level_facets_span, plane_walk_finds_all}
use Rattle.qh_model.proofs.laws.completeness.planes_hang_together.Goals as goal

pub returns : goal.returns
returns c = record { span = level_facets_span; walk = plane_walk_finds_all }
