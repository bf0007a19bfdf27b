-- The cells of one more part.
use Rattle.qh_model.proofs.Common.{List, All, Vec, Global, sym, subst, All-nil, All-head, All-tail, All-append, IfOk, Result}
use Rattle.{qh_model.specs.declared.memory.Memory.Memory, qh_pred.specs.contract.Planes.PlaneValue}
use Rattle.qh_block.specs.{contract.Cells.IsCellOf, declared.regions.cells.Cell.Cell}
use Rattle.qh_block.proofs.regions.sieves.joined_cells.Goals as goal

-- a part has cells between planes
abbrev HasCellsOf : List PlaneValue → Result (Vec Cell Global) Memory → Type 0
HasCellsOf planes r = IfOk r (λ part. All (IsCellOf planes) part.items)

pub loop-part-init : goal.loop-part-init
loop-part-init c = λ planes all. (
  subst (All (IsCellOf planes)) (sym c.new-cells.ensures.items) (All-nil (IsCellOf planes)),
  subst (All (HasCellsOf planes)) (sym c.into_iter-part-iterator.ensures.into_iter_gives.0) all,
)

pub loop-part-preserved : goal.loop-part-preserved
loop-part-preserved c = λ planes all.
    let so_far = c.loop-part.invariant planes all in let left = rw c.in-Some.ensures.steps.0 at so_far.1 in
    let own = rw c.in_ok-own.was at (All-head (HasCellsOf planes) _ _ left) in (
      rw c.in_ok-append.ensures.items (All-append (IsCellOf planes) _ _ so_far.0 own),
      All-tail (HasCellsOf planes) _ _ left,
    )

pub returns : goal.returns
returns c = λ planes all. (c.loop-part.invariant planes all).0
