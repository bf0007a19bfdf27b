-- The cells that the sieve makes.
use Rattle.qh_block.proofs.regions.columns.Columns.between.Goals as goal

pub returns-clause-cells : goal.returns-clause-cells
returns-clause-cells g c = rw c.deref.ensures.value at c.in_ok-cells.ensures
