-- The rounds keep a part of the set.
use Rattle.qh_model.proofs.{Common.sym, Common.subst, Common.AreIndices, hulls.ExtremeParts.part_indices}
use Rattle.qh_block.{specs.steps.InnerPoints.IsOuterPart, proofs.InnerPoints.part_of_part}
use Rattle.qh_block.proofs.interior.culling.cull_part.Goals as goal

pub invariant_of-left : goal.invariant_of-left
invariant_of-left c =
    let pts = c.args.set.pts.now in
    record {
      indices = subst (AreIndices pts) (sym c.deref.ensures.value)
          (part_indices pts c.args.set.ids.now c.args.part.items c.args.set.indices c.requires.part.extremes.within);
    }

pub returns-in-Some-clause-part : goal.returns-in-Some-clause-part
returns-in-Some-clause-part c =
    let pts = c.args.set.pts.now in let fewer = c.in-Some.fewer.items in
    part_of_part pts c.args.set.ids.now c.args.part.items fewer c.requires.part
    (subst (λ xs. IsOuterPart pts xs fewer) c.deref.ensures.value (rw c.in-Some.is at c.in_ok-fewer.ensures.part))
