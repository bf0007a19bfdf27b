use Rattle.qh_model.proofs.closed_surfaces.Supporting.{closed_miss_no_plane, closed_miss_no_extreme}
use Rattle.qh_model.proofs.laws.closed_faces.closed_triangles_miss_nothing.Goals as goal

pub returns : goal.returns
returns c = record { planes = closed_miss_no_plane; extremes = closed_miss_no_extreme }
