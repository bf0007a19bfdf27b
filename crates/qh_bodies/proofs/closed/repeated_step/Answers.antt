-- The sorted keys of the steps to a higher id decide.
use Rattle.std.proofs.lemmas.List.Sorted.{IsNonDecreasingBy-from_sort}
use Rattle.qh_bodies.proofs.Steps.{once_by_keys, twice_by_key}
use Rattle.qh_bodies.proofs.closed.repeated_step.Goals as goal

pub repeated_key-requires : goal.repeated_key-requires
repeated_key-requires c =
    rw c.deref-2.ensures.value (IsNonDecreasingBy-from_sort (λ x. x) _ c.sort_unstable.ensures.sorted)

pub returns : goal.returns
returns c =
    let ups = rw c.deref.ensures.value at c.in_ok-up.ensures in
    let twice = rw c.deref-2.ensures.value at c.in-Some.ensures in
    rw (c.of.ensures.from, c.of.ensures.to)
    (twice_by_key c.args.polygons.now _ _ _ c.in_ok-keys.ensures ups c.sort_unstable.ensures.permutation c.in-Some.key twice)

pub returns-in_default : goal.returns-in_default
returns-in_default c =
    let ups = rw c.deref.ensures.value at c.in_ok-up.ensures in
    let once = rw c.deref-2.ensures.value at c.in_default.ensures in
    once_by_keys c.args.polygons.now _ _ _ c.in_ok-keys.ensures ups c.sort_unstable.ensures.permutation once
