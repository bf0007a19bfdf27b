-- The ids so far rise.
use Rattle.std.proofs.Common.{◌+◌, ◌≤◌, ◌<◌, length, get_or, ℕ}
use Rattle.qh_block.proofs.interior.sample.rise.Given as goal

-- the ids before this place rise
abbrev pub invariant-loop-at : goal.invariant-loop-at
invariant-loop-at l = (1 ≤ l.at) × ((k : ℕ) → k + 1 < l.at → k + 1 < length l.ids → get_or l.ids k 0 < get_or l.ids (k + 1) 0)
