use Rattle.qh_laws.proofs.Parts.{staying_supports, staying_has_polygon, strict_is_clear, seam_of_others}
use Rattle.qh_laws.proofs.seam.staying_faces_are_faces.Goals as goal

pub returns : goal.returns
returns c = record { support = staying_supports; polygon = staying_has_polygon; clear = strict_is_clear; others = seam_of_others }
