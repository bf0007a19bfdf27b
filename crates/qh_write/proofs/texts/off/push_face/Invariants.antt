use Rattle.qh_model.proofs.Common.{◌≡◌, ◌++◌, take, flat_map, spaced}
use Rattle.qh_write.specs.steps.Numberings.{number_in}
use Rattle.qh_write.proofs.texts.off.push_face.Given as goal

abbrev pub invariant-loop-id : goal.invariant-loop-id
invariant-loop-id l = l.text.items ≡ l.initial.text.items ++ flat_map (λ i. spaced (number_in l.numbers i)) (take l.id-index l.face)
