use Rattle.qh_model.proofs.Common.{◌≡◌, ◌++◌, drop, flat_map, place}
use Rattle.qconvex_c.specs.steps.FaceFans.{face_normals}
use Rattle.qconvex_c.proofs.fans.fan_normals.Given as goal

abbrev pub invariant-loop-face : goal.invariant-loop-face
invariant-loop-face l = l.components.items ++ flat_map (face_normals (place l.pts)) (drop l.face-index l.faces) ≡ flat_map (face_normals (place l.pts)) l.faces
