-- The cells so far, and those of the remaining parts, are cells between planes if those of all parts are.
use Rattle.qh_model.proofs.Common.{List, All, IfOk, into_iter_items}
use Rattle.{qh_pred.specs.contract.Planes.PlaneValue, qh_block.specs.contract.Cells.IsCellOf}
use Rattle.qh_block.proofs.regions.sieves.joined_cells.Given as goal

abbrev pub invariant-loop-part : goal.invariant-loop-part
invariant-loop-part l = (planes : List PlaneValue) → All (λ r. IfOk r (λ part. All (IsCellOf planes) part.items)) l.fn.parts.items
    → All (IsCellOf planes) l.cells.items × All (λ r. IfOk r (λ part. All (IsCellOf planes) part.items)) (into_iter_items l.part-iterator)
