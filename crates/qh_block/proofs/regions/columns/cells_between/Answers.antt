-- The cells of the whole square.
use Rattle.qh_model.proofs.Common.{rules, List, sym, subst, All-nil, All}
use Rattle.qh_block.specs.{contract.Cells.IsCellOf, declared.regions.cells.Cell.Cell}
use Rattle.qh_block.proofs.regions.columns.cells_between.Goals as goal

pub returns : goal.returns
returns c =
    let cells = IsCellOf c.args.plan.planes.now in
    c.in_ok-push_square.ensures (c.in_ok-whole.ensures c.args.plan.planes.now (search rules))
    (subst (λ (xs : List Cell). All cells xs) (sym c.in_ok-cells.ensures.items) (All-nil cells))
