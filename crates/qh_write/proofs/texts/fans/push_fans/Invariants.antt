use Rattle.qh_model.proofs.Common.{◌≡◌, ◌++◌, take, flat_map, fans}
use Rattle.qh_write.specs.steps.Numberings.{face_by_numbers}
use Rattle.qh_write.proofs.texts.fans.push_fans.Given as goal

abbrev pub invariant-loop-face : goal.invariant-loop-face
invariant-loop-face l = l.text.items ≡ l.initial.text.items ++ flat_map (face_by_numbers l.numbers) (fans (take l.face-index l.faces))
