-- Each link so far leads to the next position.
use Rattle.std.proofs.Common.{◌≡◌, ◌+◌, ◌<◌, ◌≤◌, ℕ, get_or, vec_len, vec_capacity}
use Rattle.qh_surface.proofs.outside_sets.rising_links.Given as goal

abbrev pub invariant-loop-position : goal.invariant-loop-position
invariant-loop-position l =
    (vec_len l.links ≡ l.position) × (l.positions ≤ vec_capacity l.links) × ((k : ℕ) → k < l.position → get_or l.links.items k 0 ≡ k + 1)
