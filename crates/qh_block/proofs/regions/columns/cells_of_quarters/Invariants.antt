-- The cells so far are cells between all planes.
use Rattle.{std.specs.List.All, qh_block.specs.contract.Cells.IsCellOf}
use Rattle.qh_block.proofs.regions.columns.cells_of_quarters.Given as goal

abbrev pub invariant-loop-number : goal.invariant-loop-number
invariant-loop-number l = All (IsCellOf l.plan.planes.now) l.cells.items
