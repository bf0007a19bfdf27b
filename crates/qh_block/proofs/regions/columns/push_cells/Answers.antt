-- Three cells of the column, one after the other.
use Rattle.std.proofs.Common.{List, All, ◌≡◌, [], ◌∷◌, ◌++◌}
use Rattle.{qh_model.proofs.Members.all_and, qh_block.specs.contract.Cells.IsCellOf, qh_block.specs.declared.regions.cells.Cell.Cell}
use Rattle.qh_block.proofs.regions.columns.push_cells.Goals as goal

pub returns : goal.returns
returns c column olds =
    let is_cell = IsCellOf c.args.planes.now in
    with_one is_cell _ _ _ c.in_ok-push-3.ensures.items (with_one is_cell _ _ _ c.in_ok-push-2.ensures.items
    (with_one is_cell _ _ _ c.in_ok-push.ensures.items olds (c.in_ok-cell_at.ensures column)) (c.in_ok-cell_at-2.ensures column))
    (c.in_ok-cell_at-3.ensures column)
  where
    with_one : (P : Cell → Type 0) (xs ys : List Cell) (x : Cell) → ys ≡ xs ++ x ∷ [] → All P xs → P x → All P ys
    with_one P xs ys x is all p = rw is (all_and P xs x all p)
