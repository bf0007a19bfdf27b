-- The text so far, and the remaining triangles.
use Rattle.qh_model.proofs.Common.{◌≡◌, ◌++◌, All, flat_map, face_triangles}
use Rattle.qh_write.specs.steps.Numberings.{AreNumbered, face_by_numbers}
use Rattle.qh_write.proofs.texts.fans.push_fan.Given as goal

abbrev pub invariant-loop-triangle : goal.invariant-loop-triangle
invariant-loop-triangle l = record {
  grown : l.text.items ++ flat_map (face_by_numbers l.numbers) l.triangle-iterator
      ≡ l.initial.text.items ++ flat_map (face_by_numbers l.numbers) (face_triangles l.face);
  numbered : All (AreNumbered l.numbers) l.triangle-iterator;
}
