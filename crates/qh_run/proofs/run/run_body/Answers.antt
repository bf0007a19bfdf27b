-- The hull of the ids that the tree returns is that of all ids.
use Rattle.qh_model.proofs.Common.{sym, subst, AreIndices}
use Rattle.qh_model.proofs.hulls.ExtremeParts.{part_indices, part_set}
use Rattle.qh_run.proofs.run.run_body.Goals as goal

pub finish-requires-clause-indices : goal.finish-requires-clause-indices
finish-requires-clause-indices g c =
    let pts = c.args.pts.now in
    let found = rw (c.new.ensures.pts, c.new.ensures.ids) at c.in-Some.ensures.stand in
    subst (AreIndices pts) (sym c.deref.ensures.value)
    (part_indices pts c.args.ids.now c.in-Some.part.items c.requires.indices found.within)

pub returns-in_ok-finish-in-Some-clause-body : goal.returns-in_ok-finish-in-Some-clause-body
returns-in_ok-finish-in-Some-clause-body g c =
    let pts = c.args.pts.now in
    let found = rw (c.new.ensures.pts, c.new.ensures.ids) at c.in-Some.ensures.stand in
    let hull = rw c.deref.ensures.value at c.in_ok-finish-in-Some.ensures in
    found.hull c.in_ok-finish-in-Some.field-0 (hull (part_set pts c.args.ids.now c.in-Some.part.items c.requires.set found.rising found.within))
