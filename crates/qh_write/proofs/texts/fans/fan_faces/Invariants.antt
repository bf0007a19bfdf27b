use Rattle.qh_model.proofs.Common.{◌≡◌, length, take, fans}
use Rattle.qh_write.proofs.texts.fans.fan_faces.Given as goal

abbrev pub invariant-loop-face : goal.invariant-loop-face
invariant-loop-face l = l.count ≡ length (fans (take l.face-index l.faces))
