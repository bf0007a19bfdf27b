-- No two neighbours among the keys so far are the same.
use Rattle.std.proofs.Common.{ℕ, ◌≡◌, ◌≢◌, ◌+◌, ◌<◌, get_or}
use Rattle.qh_bodies.proofs.closed.repeated_key.Given as goal

abbrev pub invariant-loop-next : goal.invariant-loop-next
invariant-loop-next l = (k m : ℕ) → m ≡ k + 1 → m < l.next → get_or l.keys k 0 ≢ get_or l.keys m 0
