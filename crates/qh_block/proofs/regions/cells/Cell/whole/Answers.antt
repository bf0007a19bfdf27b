-- All planes are near.
use Rattle.qh_block.proofs.CellParts.{all_near}
use Rattle.qh_block.proofs.regions.cells.Cell.whole.Goals as goal

pub returns : goal.returns
returns c = all_near _ c.args.count _ c.in_ok-numbers_below.ensures
