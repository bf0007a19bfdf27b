-- The pairs of the remaining sides complete those of the face.
use Rattle.{qh_model.specs.headline.Fan.pairs_round, qh_write.proofs.EdgeKeyLemmas.pairs_along_sides, qh_write.specs.steps.EdgeKeys.Completes}
use Rattle.qh_write.proofs.texts.edges.push_round.Given as goal

abbrev pub invariant-loop-from : goal.invariant-loop-from
invariant-loop-from l = Completes (pairs_along_sides l.from-iterator) (pairs_round l.face) l.keys.items l.initial.keys.items
