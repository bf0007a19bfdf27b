-- Judgements on faces. This project's own.
use Rattle.std.specs.Prelude.{ℕ, ◌≡◌, ◌<◌, ◌↔◌, List, [], length, slice_index_or}
use Rattle.qh_model.specs.headline.{Vector.Vector, DistinctIds.AreDistinctIds, Predicates.place, Sets.Members}
use Rattle.qh_check.specs.contract.{Surfaces.IsHullSurface, Surfaces.IsSurfaceReason, Naming.AreNamedFaces, Naming.HasStranger}
use Rattle.qh_check.specs.declared.{verdict.SurfaceVerdict.SurfaceVerdict, verdict.SurfaceVerdict.TheVariants.Right, judgement.Judgement.Judgement}
use Rattle.qh_check.specs.declared.judgement.Judgement.TheVariants.{Told, Stranger}

-- the verdict is `Right` exactly if the faces, renamed to the distinct ids of the points, are the surface of their hull; and the verdict is true
pub record IsTold (pts named : List Vector) (faces : List (List ℕ)) (v : SurfaceVerdict) : Type 0 where
  pub ids : List ℕ
  pub distinct : AreDistinctIds pts ids
  pub polygons : List (List ℕ)
  pub same : AreNamedFaces pts ids named faces polygons
  pub right : (v ≡ Right) ↔ IsHullSurface (place pts) (Members ids) polygons
  pub reason : IsSurfaceReason (place pts) (Members ids) polygons v

-- the face at a position has a corner that is not one of the points
pub record IsStrangeFace (pts named : List Vector) (faces : List (List ℕ)) (n : ℕ) : Type 0 where
  pub ids : List ℕ
  pub distinct : AreDistinctIds pts ids
  pub there : n < length faces
  pub stranger : HasStranger pts ids named (slice_index_or faces n [])

-- a right judgement on faces whose corners are indices of points of a list
abbrev pub IsJudgement : List Vector → List Vector → List (List ℕ) → Judgement → Type 0
IsJudgement pts named faces (Told v) = IsTold pts named faces v
IsJudgement pts named faces (Stranger n) = IsStrangeFace pts named faces n
