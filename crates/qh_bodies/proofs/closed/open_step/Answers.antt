-- The sorted keys of the steps and of the steps back are the same, or one of them is that of an open step.
use Rattle.std.proofs.lemmas.List.Sorted.{IsNonDecreasingBy-from_sort}
use Rattle.qh_bodies.proofs.Steps.{closed_by_keys, open_by_key}
use Rattle.qh_bodies.proofs.closed.open_step.Goals as goal

pub other_key-requires-clause-up : goal.other_key-requires-clause-up
other_key-requires-clause-up c =
    rw c.deref-3.ensures.value (IsNonDecreasingBy-from_sort (λ x. x) _ c.sort_unstable.ensures.sorted)

pub other_key-requires-clause-down : goal.other_key-requires-clause-down
other_key-requires-clause-down c =
    rw c.deref-4.ensures.value (IsNonDecreasingBy-from_sort (λ x. x) _ c.sort_unstable-2.ensures.sorted)

pub returns-in-Some : goal.returns-in-Some
returns-in-Some c =
    let ups = rw c.deref.ensures.value at c.in_ok-up.ensures in
    let downs = rw c.deref-2.ensures.value at c.in_ok-down.ensures in
    let otherwise = rw (c.deref-3.ensures.value, c.deref-4.ensures.value) at c.in-Some.ensures in
    rw (c.of.ensures.from, c.of.ensures.to)
    (open_by_key c.args.polygons.now _ _ _ _ _ c.in_ok-keys.ensures ups downs c.sort_unstable.ensures.permutation
    c.sort_unstable-2.ensures.permutation c.in-Some.key otherwise)

pub returns : goal.returns
returns c =
    let ups = rw c.deref.ensures.value at c.in_ok-up.ensures in
    let downs = rw c.deref-2.ensures.value at c.in_ok-down.ensures in
    let same = rw (c.deref-3.ensures.value, c.deref-4.ensures.value) at c.in-None.ensures in
    closed_by_keys c.args.polygons.now _ _ _ _ _ c.in_ok-keys.ensures ups downs c.sort_unstable.ensures.permutation
    c.sort_unstable-2.ensures.permutation same
