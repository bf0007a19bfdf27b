-- The list has both parts.
use Rattle.qh_model.proofs.Members.{all_and, all_none}
use Rattle.qh_parts_join.specs.contract.Parts.{IsPartOf}
use Rattle.qh_tests_check.proofs.tests.seams.halves_of.Goals as goal

pub returns-clause-parts : goal.returns-clause-parts
returns-clause-parts c =
    let P = IsPartOf c.args.pts.now c.in_ok-shared.shared.items in
    let low = rw (c.deref.ensures.value) at (rw c.in-Some.is at c.in_ok-low.ensures) in
    rw (c.in_ok-push-2.ensures.items) (all_and P _ _
    (rw (c.in_ok-push.ensures.items) (all_and P _ _ (all_none P _ c.new-parts.ensures.items) low))
    (rw (c.deref-2.ensures.value) at (rw c.in-Some-2.is at c.in_ok-high.ensures)))
