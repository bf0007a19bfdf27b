-- The places of the halves are those of parts.
use Rattle.qh_parts_join.proofs.OwnCorners.{all_placed}
use Rattle.qh_tests_check.proofs.tests.seams.seam.cube_with.Goals as goal

pub invariant_of-kept-clause-corners_in : goal.invariant_of-kept-clause-corners_in
invariant_of-kept-clause-corners_in g c =
    let halves = c.in-Some.halves in
    rw (c.deref.ensures.value, c.in_ok-corners.ensures)
    (all_placed _ halves.shared.items halves.parts.items (rw c.in-Some.is at c.in_ok-halves.ensures.parts))

pub invariant_of-kept-clause-shared_in : goal.invariant_of-kept-clause-shared_in
invariant_of-kept-clause-shared_in g c = rw c.deref-2.ensures.value (rw c.in-Some.is at c.in_ok-halves.ensures.shared)
