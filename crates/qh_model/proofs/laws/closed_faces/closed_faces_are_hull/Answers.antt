use Rattle.qh_model.proofs.laws.closed_faces.closed_faces_are_hull.Goals as goal
use Rattle.qh_model.proofs.polygons.{ClosedFaces.closed_faces_are_all, ClosedFaces.closed_faces_have_extremes, Steps.faces_close}

pub returns : goal.returns
returns c = record { faces = closed_faces_are_all; extremes = closed_faces_have_extremes; close = faces_close }
