-- The slots so far are empty.
use Rattle.std.proofs.Common.{◌≡◌, All, IsNone, length}
use Rattle.qh_threads.proofs.claimed.empty_slots.Given as goal

abbrev pub invariant-loop : goal.invariant-loop
invariant-loop g l = (length l.slots.items ≡ l.counter) × All IsNone l.slots.items
