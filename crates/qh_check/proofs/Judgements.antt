-- The verdict on polygons as the verdict on the faces that they represent.
use Rattle.qh_model.proofs.Common.{ℕ, List, IsIdSet, AreDistinctIds, Vector}
use Rattle.{qh_plane.proofs.DistinctLists.id_set, qh_check.specs.declared.verdict.SurfaceVerdict.SurfaceVerdict}
use Rattle.qh_check.specs.contract.{Surfaces.IsSurfaceVerdictOf, Naming.AreNamedFaces, Judging.IsTold}

-- distinct ids are ids of distinct points, so the verdict on the polygons is the verdict on the faces
pub told : (pts named : List Vector) (faces : List (List ℕ)) (ids : List ℕ) (polygons : List (List ℕ)) (v : SurfaceVerdict)
    → AreDistinctIds pts ids → AreNamedFaces pts ids named faces polygons → (IsIdSet pts ids → IsSurfaceVerdictOf pts ids polygons v) → IsTold pts named faces v
told pts named faces ids polygons v distinct same tells =
    let verdict = tells (id_set pts ids distinct) in record {
      ids = ids;
      distinct = distinct;
      polygons = polygons;
      same = same;
      right = verdict.right;
      reason = verdict.reason;
    }
