-- The text of a judgement for a person, in one line. This project's own.
use Rattle.std.specs.Prelude.{ℕ, List, ◌++◌, codes, decimal}
use Rattle.qh_check.specs.declared.fault.FaceFault.{FaceFault, TheVariants.NoPlane, TheVariants.Above, TheVariants.OtherFace}
use Rattle.qh_check.specs.declared.verdict.SurfaceVerdict.{SurfaceVerdict}
use Rattle.qh_check.specs.declared.verdict.SurfaceVerdict.TheVariants.{Right, OtherPolygons, NoPiece, Open, Twice}
use Rattle.qh_check.specs.declared.judgement.Judgement.{Judgement, TheVariants.Told, TheVariants.Stranger}

-- the text of a fault of a face
abbrev pub face_fault_text : FaceFault → List ℕ
face_fault_text NoPlane = codes "its first three corners are no points in a plane"
face_fault_text (Above id) = codes "point " ++ (decimal id ++ codes " is above its plane")
face_fault_text OtherFace = codes "the polygon of its plane is another"

-- the text of the verdict on a surface
abbrev pub verdict_text : SurfaceVerdict → List ℕ
verdict_text Right = codes "all right"
verdict_text OtherPolygons = codes "the polygons are others"
verdict_text (NoPiece n fault) = codes "face " ++ (decimal n ++ (codes ": " ++ face_fault_text fault))
verdict_text (Open u v) = codes "the side from point " ++ (decimal u ++ (codes " to point " ++ (decimal v ++ codes " is open")))
verdict_text (Twice u v) = codes "more than one face has the side from point " ++ (decimal u ++ (codes " to point " ++ decimal v))

-- the text of the judgement
abbrev pub judgement_text : Judgement → List ℕ
judgement_text (Told verdict) = verdict_text verdict
judgement_text (Stranger n) = codes "face " ++ (decimal n ++ codes ": one of its corners is not a point of the set")
