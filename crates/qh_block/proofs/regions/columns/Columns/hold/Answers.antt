-- The tested cell is one of the cells.
use Rattle.qh_model.proofs.Common.{arith, subst, sym, In}
use Rattle.{qh_model.proofs.Members.In-get_or, qh_block.specs.declared.regions.cells.Cell.Cell}
use Rattle.qh_block.proofs.regions.columns.Columns.hold.Goals as goal

pub returns-in-Some : goal.returns-in-Some
returns-in-Some c t =
    let bs = c.deref.result.now in let found = c.in-Some.ensures.lookup in
    let member = subst (λ (b : Cell). In b bs) (sym found.1) (In-get_or bs c.place.result _ (omega arith)) in
    (c.in-Some.cell.now, rw c.deref.ensures.value at member, rw c.deref-in-Some.ensures.value at (c.holds.ensures t))
