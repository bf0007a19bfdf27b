-- Each plane is above all of the part, listed, or among the remaining ones.
use Rattle.{std.proofs.Common.drop, qh_block.proofs.CellParts.AreSifted}
use Rattle.qh_block.proofs.regions.cells.Cell.part.Given as goal

abbrev pub invariant-loop-number : goal.invariant-loop-number
invariant-loop-number l = AreSifted l.planes l.bounds l.self.near.items l.near.items (drop l.number-index l.self.near.items)
