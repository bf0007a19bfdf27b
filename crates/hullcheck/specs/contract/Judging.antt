-- The judgement on the faces in a file. This project's own.
use Rattle.std.specs.Prelude.{ℕ, ◌≡◌, List, Option, Some, IfSome}
use Rattle.qh_model.specs.headline.{PointFile.Reads, Vector.Vector}
use Rattle.qh_read.specs.{contract.FaceFiles.ReadsFaces, declared.faces.reading.Layout.Layout, declared.faces.reading.Reading.Reading}
use Rattle.qh_read.specs.declared.faces.reading.Layout.TheVariants.{Off, Counted, Lines}
use Rattle.qh_check.specs.{contract.Judging.IsJudgement, declared.judgement.Judgement.Judgement}
use Rattle.hullcheck.specs.contract.CommandLine.{Asked, asked_by}

-- the points that the numbers of a file refer to: its vertices, or the points of the set
-- Source: Geomview OFF (a face is the list of the indices of its vertices, from 0); Qhull's options `i` and `Fv` (indices of points).
abbrev pub named_points : Layout → List Vector → List Vector → List Vector
named_points Off pts vertices = vertices
named_points Counted pts vertices = pts
named_points Lines pts vertices = pts

-- the bytes of the first file are points, those of the second are faces, and this is the judgement on them
pub record IsTold (reading : Reading) (points faces : List ℕ) (j : Judgement) : Type 0 where
  pub pts : List Vector
  pub vertices : List Vector
  pub polygons : List (List ℕ)
  pub points_read : Reads points pts
  pub faces_read : ReadsFaces reading faces vertices polygons
  pub judged : IsJudgement pts (named_points reading.layout pts vertices) polygons j

-- all bytes of a file, if the system specifies them
abbrev pub IsWhole : Option (List ℕ) → List ℕ → Type 0
IsWhole content bytes = IfSome content (λ known. known ≡ bytes)

-- this is the judgement on the bytes of two files
pub record IsToldOf (reading : Reading) (points faces : Option (List ℕ)) (j : Judgement) : Type 0 where
  pub point_bytes : List ℕ
  pub face_bytes : List ℕ
  pub points_are : IsWhole points point_bytes
  pub faces_are : IsWhole faces face_bytes
  pub told : IsTold reading point_bytes face_bytes j

-- the words are a command line, and this is the judgement on the bytes of the files that they name, read as the words specify
abbrev pub IsToldBy : List (List ℕ) → (Option (List ℕ) → Option (List ℕ)) → Judgement → Type 0
IsToldBy words contents j = (asked : Asked) × (asked_by words ≡ Some asked) × IsToldOf asked.reading (contents asked.points) (contents asked.faces) j
