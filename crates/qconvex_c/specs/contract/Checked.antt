-- Faces in one list of corners, and the verdict that a call returns.
use Rattle.std.specs.Prelude.{ℕ, ◌≡◌, ◌+◌, ◌<◌, List, [], length, slice_index, slice_index_or, slice_range}
use Rattle.qh_model.specs.headline.{DistinctIds.AreDistinctIds, Predicates.place, Sets.Members, Vector.Vector}
use Rattle.qh_check.specs.contract.{Surfaces.IsHullSurface, Judging.IsJudgement, Naming.AreNamedFaces}
use Rattle.qh_check.specs.declared.fault.FaceFault.TheVariants.{NoPlane, Above, OtherFace}
use Rattle.qh_check.specs.declared.verdict.SurfaceVerdict.TheVariants.{Right, OtherPolygons, NoPiece, Open, Twice}
use Rattle.qh_check.specs.declared.judgement.Judgement.{Judgement, TheVariants.Told, TheVariants.Stranger}
use Rattle.qconvex_c.specs.contract.Codes.{QCONVEX_RIGHT, QCONVEX_STRANGER, QCONVEX_NO_PLANE, QCONVEX_ABOVE, QCONVEX_OTHER_FACE, QCONVEX_OPEN, QCONVEX_TWICE}
use Rattle.qconvex_c.specs.{contract.Codes.QCONVEX_OTHERS, contract.Sets.sets_in, declared.verdict.Verdict.Verdict}

-- face j has the corners from offset j to before offset j + 1
pub record AreFacesIn (offsets corners : List ℕ) (faces : List (List ℕ)) : Type 0 where
  pub count : length faces ≡ sets_in offsets
  pub each : (j : ℕ) → j < sets_in offsets
      → slice_index_or faces j [] ≡ slice_range corners (slice_index offsets j) (slice_index offsets (j + 1))

-- a verdict that names neither a face nor a point
abbrev pub of_kind : ℕ → Verdict
of_kind kind = record { kind = kind; point = 0; from = 0; to = 0; face = 0 }

-- a verdict on a face, and on a point
abbrev pub on_face : ℕ → ℕ → ℕ → Verdict
on_face kind face point = record { kind = kind; point = point; from = 0; to = 0; face = face }

-- a verdict on the edge from a point to another
abbrev pub on_edge : ℕ → ℕ → ℕ → Verdict
on_edge kind from to = record { kind = kind; point = 0; from = from; to = to; face = 0 }

-- the verdict of a judgement, with numbers
abbrev pub verdict_of : Judgement → Verdict
verdict_of (Told Right) = of_kind QCONVEX_RIGHT
verdict_of (Told OtherPolygons) = of_kind QCONVEX_OTHERS
verdict_of (Told (NoPiece n NoPlane)) = on_face QCONVEX_NO_PLANE n 0
verdict_of (Told (NoPiece n (Above l))) = on_face QCONVEX_ABOVE n l
verdict_of (Told (NoPiece n OtherFace)) = on_face QCONVEX_OTHER_FACE n 0
verdict_of (Told (Open u v)) = on_edge QCONVEX_OPEN u v
verdict_of (Told (Twice u v)) = on_edge QCONVEX_TWICE u v
verdict_of (Stranger n) = on_face QCONVEX_STRANGER n 0

-- the verdict is a judgement of the faces, whose corners are indices of the points
pub record IsVerdictOn (pts : List Vector) (offsets corners : List ℕ) (v : Verdict) : Type 0 where
  pub faces : List (List ℕ)
  pub cut : AreFacesIn offsets corners faces
  pub judgement : Judgement
  pub judged : IsJudgement pts pts faces judgement
  pub said : v ≡ verdict_of judgement

-- the faces, named by the distinct ids of the points, are the surface of the hull
pub record AreHullFaces (pts : List Vector) (offsets corners : List ℕ) : Type 0 where
  pub faces : List (List ℕ)
  pub cut : AreFacesIn offsets corners faces
  pub ids : List ℕ
  pub distinct : AreDistinctIds pts ids
  pub polygons : List (List ℕ)
  pub named : AreNamedFaces pts ids pts faces polygons
  pub surface : IsHullSurface (place pts) (Members ids) polygons
