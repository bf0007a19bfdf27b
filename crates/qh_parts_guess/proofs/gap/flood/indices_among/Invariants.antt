-- The ids so far are indices.
use Rattle.qh_model.specs.contract.IdSets.{AreIndices}
use Rattle.qh_parts_guess.proofs.gap.flood.indices_among.Given as goal

abbrev pub invariant-loop-id : goal.invariant-loop-id
invariant-loop-id l = AreIndices l.pts l.indices.items
