-- The hull of the ids that the filter keeps is that of the set.
use Rattle.qh_model.proofs.Common.{subst, IfOk-weaker, IfOk, IsIdSet, IsBody, place, Members, HasExtremes}
use Rattle.qh_model.proofs.hulls.ExtremeParts.{part_indices, part_body}
use Rattle.qh_block.proofs.hulls.hull.Goals as goal

pub invariant_of-hull_of_all : goal.invariant_of-hull_of_all
invariant_of-hull_of_all c =
    let within = rw (c.in-Some.is) at c.in_ok-outer.ensures.within in
    record { indices = rw (c.deref.ensures.value) (part_indices c.args.pts.now c.args.ids.now c.in-Some.outer.items c.requires.indices within) }

pub returns-in-Some : goal.returns-in-Some
returns-in-Some c =
    let pts = c.args.pts.now in let ids = c.args.ids.now in let outer = c.in-Some.outer.items in
    let rising = rw (c.in-Some.is) at c.in_ok-outer.ensures.rising in
    let part : HasExtremes pts ids outer =
    record { within = rw (c.in-Some.is) at c.in_ok-outer.ensures.within; extremes = rw (c.in-Some.is) at c.in_ok-outer.ensures.extremes } in
    IfOk-weaker c.hull_of_all.result _ _ (λ b h set. part_body pts ids outer b set (rising set.rising) part h)
    (subst (λ xs. IfOk c.hull_of_all.result (λ b. IsIdSet pts xs → IsBody (place pts) (Members xs) b))
    c.deref.ensures.value c.hull_of_all.ensures)
