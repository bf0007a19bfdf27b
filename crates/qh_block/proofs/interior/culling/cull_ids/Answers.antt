-- The first round keeps a part of the set, and the second keeps a part of that part.
use Rattle.qh_model.proofs.{Common.sym, Common.subst, Common.AreIndices, hulls.ExtremeParts.part_indices}
use Rattle.qh_block.{specs.steps.InnerPoints.IsOuterPart, proofs.InnerPoints.part_of_part}
use Rattle.qh_block.proofs.interior.culling.cull_ids.Goals as goal

pub invariant_of-left : goal.invariant_of-left
invariant_of-left g c =
    let pts = c.args.set.pts.now in let first = c.in-Some.first.items in
    let part = rw c.in-Some.is at c.in_ok-first.ensures.part in
    record { indices = subst (AreIndices pts) (sym c.deref.ensures.value) (part_indices pts c.args.set.ids.now first c.args.set.indices part.extremes.within) }

pub returns-in-Some-2-clause-part : goal.returns-in-Some-2-clause-part
returns-in-Some-2-clause-part g c =
    let pts = c.args.set.pts.now in let one = rw c.in-Some.is at c.in_ok-first.ensures.part in
    part_of_part pts c.args.set.ids.now c.in-Some.first.items c.in-Some-2.second.items one
    (subst (λ xs. IsOuterPart pts xs c.in-Some-2.second.items) c.deref.ensures.value (rw c.in-Some-2.is at c.in_ok-second.ensures.part))
