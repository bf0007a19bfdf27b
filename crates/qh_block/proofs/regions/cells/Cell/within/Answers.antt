-- A part of the box with the same planes.
use Rattle.qh_block.proofs.CellParts.{lesser_is_cell}
use Rattle.qh_block.proofs.regions.cells.Cell.within.Goals as goal

pub returns : goal.returns
returns c = λ planes. lesser_is_cell planes c.args.self.bounds _ c.args.self.near.items c.common.ensures
