-- The kept ids of the parts so far are kept of all their ids.
use Rattle.{std.proofs.Common.◌*◌, std.proofs.Common.take, qh_block.specs.contract.Cells.HoldsPoint, qh_block.specs.contract.KeptIds.KeepsExtremes}
use Rattle.qh_block.proofs.regions.sieves.joined.Given as goal

abbrev pub invariant-loop-part : goal.invariant-loop-part
invariant-loop-part l = KeepsExtremes l.set.pts.now (HoldsPoint l.columns) (take (l.part-index * l.size) l.set.ids.now) l.kept.items
