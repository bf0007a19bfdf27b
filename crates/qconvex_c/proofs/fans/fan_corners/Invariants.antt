use Rattle.qh_model.proofs.Common.{◌≡◌, ◌++◌, drop, flat_map}
use Rattle.qconvex_c.specs.steps.FaceFans.{face_corners}
use Rattle.qconvex_c.proofs.fans.fan_corners.Given as goal

abbrev pub invariant-loop-face : goal.invariant-loop-face
invariant-loop-face l = l.numbers.items ++ flat_map face_corners (drop l.face-index l.faces) ≡ flat_map face_corners l.faces
