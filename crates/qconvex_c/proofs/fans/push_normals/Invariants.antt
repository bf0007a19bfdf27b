-- The normals so far, and the remaining triangles.
use Rattle.qh_model.proofs.Common.{◌≡◌, ◌++◌, All, flat_map, AreIndices, place}
use Rattle.qconvex_c.specs.{contract.Triangles.normal_of, steps.FaceFans.face_normals}
use Rattle.qconvex_c.proofs.fans.push_normals.Given as goal

abbrev pub invariant-loop-u : goal.invariant-loop-u
invariant-loop-u l = record {
  grown : l.components.items ++ flat_map (normal_of (place l.pts)) l.u-iterator
      ≡ l.initial.components.items ++ face_normals (place l.pts) l.face;
  within : All (AreIndices l.pts) l.u-iterator;
}
