-- The extreme ids of the ids that the filter keeps are those of the set.
use Rattle.qh_model.proofs.Common.{subst, IfOk-weaker, IfOk, IsIdSet, AreExtremes, place, Members, HasExtremes}
use Rattle.qh_model.proofs.hulls.ExtremeParts.{part_indices, part_set, part_extremes}
use Rattle.qh_block.proofs.hulls.extremes.Goals as goal

pub invariant_of-extremes_of_all : goal.invariant_of-extremes_of_all
invariant_of-extremes_of_all c =
    let within = rw (c.in-Some.is) at c.in_ok-outer.ensures.within in
    record { indices = rw (c.deref.ensures.value) (part_indices c.args.pts.now c.args.ids.now c.in-Some.outer.items c.requires.indices within) }

pub returns-in-Some : goal.returns-in-Some
returns-in-Some c =
    let pts = c.args.pts.now in let ids = c.args.ids.now in let outer = c.in-Some.outer.items in
    let rising = rw (c.in-Some.is) at c.in_ok-outer.ensures.rising in
    let part : HasExtremes pts ids outer =
    record { within = rw (c.in-Some.is) at c.in_ok-outer.ensures.within; extremes = rw (c.in-Some.is) at c.in_ok-outer.ensures.extremes } in
    IfOk-weaker c.extremes_of_all.result _ _ (λ v h set. part_extremes pts ids outer v.items set part
    (h (part_set pts ids outer set (rising set.rising) part.within)))
    (subst (λ xs. IfOk c.extremes_of_all.result (λ v. IsIdSet pts xs → AreExtremes (place pts) (Members xs) v.items))
    c.deref.ensures.value c.extremes_of_all.ensures)
