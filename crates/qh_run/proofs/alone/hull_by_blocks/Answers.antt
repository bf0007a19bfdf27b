use Rattle.qh_model.proofs.Common.{◌<◌, length, sym, subst, IfOk-weaker, AreIndices}
use Rattle.qh_model.proofs.hulls.ExtremeParts.{part_indices, part_some, part_body}
use Rattle.qh_run.proofs.KeptBlocks.{part_as}
use Rattle.qh_run.proofs.alone.hull_by_blocks.Goals as goal

pub hull-requires-clause-some : goal.hull-requires-clause-some
hull-requires-clause-some c =
    let part = part_as c.args.pts.now c.args.ids.now c.in_ok-kept.kept.items c.in_ok-part.part.items
    (rw (c.deref.ensures.value) at c.in_ok-part.ensures.members) c.in_ok-kept.ensures in
    subst (λ xs. 0 < length xs) (sym c.deref-2.ensures.value)
    (part_some c.args.pts.now c.args.ids.now c.in_ok-part.part.items c.requires.set c.requires.some part.extremes)

pub hull-requires-clause-indices : goal.hull-requires-clause-indices
hull-requires-clause-indices c =
    let part = part_as c.args.pts.now c.args.ids.now c.in_ok-kept.kept.items c.in_ok-part.part.items
    (rw (c.deref.ensures.value) at c.in_ok-part.ensures.members) c.in_ok-kept.ensures in
    subst (AreIndices c.args.pts.now) (sym c.deref-2.ensures.value)
    (part_indices c.args.pts.now c.args.ids.now c.in_ok-part.part.items c.requires.indices part.within)

pub returns : goal.returns
returns c =
    let part = part_as c.args.pts.now c.args.ids.now c.in_ok-kept.kept.items c.in_ok-part.part.items
    (rw (c.deref.ensures.value) at c.in_ok-part.ensures.members) c.in_ok-kept.ensures in
    IfOk-weaker c.hull.result _ _
    (λ b f. part_body c.args.pts.now c.args.ids.now c.in_ok-part.part.items b c.requires.set c.in_ok-part.ensures.rising part f)
    (rw (c.deref-2.ensures.value) at c.hull.ensures)
