use Rattle.qh_laws.proofs.convexity.sharp_polygons_are_hull.Goals as goal
use Rattle.qh_laws.proofs.Solids.{sharp_polygons_are_faces, sharp_is_solid, triangle_polygons_are_faces, triangle_polygons_have_extremes}

pub returns : goal.returns
returns c = record {
  faces = sharp_polygons_are_faces;
  each = triangle_polygons_are_faces;
  extremes = triangle_polygons_have_extremes;
  dimension = sharp_is_solid;
}
