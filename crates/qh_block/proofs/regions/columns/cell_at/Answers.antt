-- The empty cell, or a part.
use Rattle.qh_block.proofs.regions.columns.cell_at.Goals as goal

pub returns-then-is_empty : goal.returns-then-is_empty
returns-then-is_empty c cell = c.none.ensures c.args.planes.now
