-- The empty cell, or a part between heights.
use Rattle.qh_block.proofs.regions.columns.cell_over.Goals as goal

pub returns-then-is_empty : goal.returns-then-is_empty
returns-then-is_empty c cell = c.none.ensures c.args.planes.now

pub returns : goal.returns
returns c cell = c.within.ensures c.args.planes.now (c.in_ok-part.ensures cell)
