-- A quarter has half the side; the cells so far are cells between all planes if the cells before were.
use Rattle.{std.specs.List.All, qh_block.specs.contract.Cells.IsCellOf}
use Rattle.qh_block.proofs.regions.columns.+push_square.Given as goal

abbrev pub decreases-push_square : goal.decreases-push_square
decreases-push_square l = l.square.now.bits

abbrev pub invariant-loop-number : goal.invariant-loop-number
invariant-loop-number l = IsCellOf l.plan.planes.now l.whole → All (IsCellOf l.plan.planes.now) l.initial.cells.items
    → All (IsCellOf l.plan.planes.now) l.cells.items
