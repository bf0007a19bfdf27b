-- The pairs of the remaining triangles complete those of the fan.
use Rattle.{qh_model.specs.contract.FaceTriangles.face_triangles, qh_write.specs.steps.EdgeKeys.Completes, qh_write.specs.steps.EdgeKeys.pairs_of}
use Rattle.qh_write.proofs.texts.edges.push_fan.Given as goal

abbrev pub invariant-loop-triangle : goal.invariant-loop-triangle
invariant-loop-triangle l = Completes (pairs_of l.triangle-iterator) (pairs_of (face_triangles l.face)) l.keys.items l.initial.keys.items
