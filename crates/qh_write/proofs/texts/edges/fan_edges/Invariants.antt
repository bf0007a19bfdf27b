use Rattle.qh_model.proofs.Common.{drop, [], fans}
use Rattle.qh_write.specs.steps.EdgeKeys.{Completes, pairs_of}
use Rattle.qh_write.proofs.texts.edges.fan_edges.Given as goal

abbrev pub invariant-loop-face : goal.invariant-loop-face
invariant-loop-face l = Completes (pairs_of (fans (drop l.face-index l.faces))) (pairs_of (fans l.faces)) l.keys.items []
