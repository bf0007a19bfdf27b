use Rattle.qh_model.proofs.Common.{length, AreIndices}
use Rattle.qh_run.specs.steps.Parts.{HasExtremesBefore}
use Rattle.qh_run.proofs.alone.extremes_of_blocks.Given as goal

abbrev pub invariant-loop-rest : goal.invariant-loop-rest
invariant-loop-rest l = record {
  indices : AreIndices l.pts l.rest;
  kept : HasExtremesBefore l.pts l.ids l.rest l.kept.items;
}

abbrev pub decreases-loop-rest : goal.decreases-loop-rest
decreases-loop-rest l = length l.rest
