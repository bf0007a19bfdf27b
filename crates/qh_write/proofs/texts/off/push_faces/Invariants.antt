use Rattle.{std.proofs.Common.◌≡◌, std.proofs.Common.◌++◌, std.proofs.Common.take, std.specs.List.flat_map, qh_write.specs.steps.Numberings.face_by_numbers}
use Rattle.qh_write.proofs.texts.off.push_faces.Given as goal

abbrev pub invariant-loop-face : goal.invariant-loop-face
invariant-loop-face l = l.text.items ≡ l.initial.text.items ++ flat_map (face_by_numbers l.numbers) (take l.face-index l.faces)
