use Rattle.qh_laws.proofs.convexity.sharp_polygon_is_face.Goals as goal
use Rattle.qh_laws.proofs.{PolygonFaces.sharp_polygon_is_face, TriangleFaces.sharp_is_face}

pub returns : goal.returns
returns c = record { triangle = sharp_is_face; polygon = sharp_polygon_is_face }
