use Rattle.qh_laws.proofs.convexity.scale_keeps_hull.Goals as goal
use Rattle.qh_laws.proofs.Scales.{scaled_volume, scale_keeps_distinct, scale_keeps_convex, scale_keeps_polygons, scale_keeps_extremes, scale_keeps_faces}

pub returns : goal.returns
returns c = record {
  volume = scaled_volume;
  points = scale_keeps_distinct;
  convex = scale_keeps_convex;
  polygons = scale_keeps_polygons;
  extremes = scale_keeps_extremes;
  faces = scale_keeps_faces;
}
