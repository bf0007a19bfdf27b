use Rattle.std.proofs.Common.{ℕ, ◌-◌, ◌≤◌, ◌<◌, length, slice_index}
use Rattle.qconvex_c.proofs.neighbors.place_of.Given as goal

abbrev pub invariant-loop-at : goal.invariant-loop-at
invariant-loop-at l = record { before : (j : ℕ) → j < l.at → slice_index l.keys j < l.least; within : l.at ≤ length l.keys }

abbrev pub decreases-loop-at : goal.decreases-loop-at
decreases-loop-at l = length l.keys - l.at
