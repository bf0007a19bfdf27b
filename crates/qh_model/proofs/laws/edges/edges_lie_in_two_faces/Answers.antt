use Rattle.qh_model.proofs.laws.edges.edges_lie_in_two_faces.Goals as goal
use Rattle.qh_model.proofs.polygons.{Edges.one_face_each_way, OtherFace.other_face}

pub returns : goal.returns
returns c = record { one = one_face_each_way; other = other_face }
