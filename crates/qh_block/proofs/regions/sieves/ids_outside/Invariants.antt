-- The ids kept so far and the remaining ids include all extreme ids.
use Rattle.{std.proofs.Common.◌++◌, std.proofs.Common.drop, qh_block.specs.contract.KeptIds.KeepsExtremes}
use Rattle.qh_block.proofs.regions.sieves.ids_outside.Given as goal

abbrev pub invariant-loop-id : goal.invariant-loop-id
invariant-loop-id g l = KeepsExtremes l.set.pts.now (g.R.Region.held l.region) l.set.ids.now (l.kept.items ++ drop l.id-index l.set.ids.now)
