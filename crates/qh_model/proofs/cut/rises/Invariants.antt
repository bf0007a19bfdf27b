use Rattle.qh_model.proofs.Common.{◌+◌, ◌≤◌, ◌<◌, length, ℕ, bound}
use Rattle.qh_model.proofs.cut.rises.Given as goal

-- the bounds before j rise
abbrev pub invariant-loop-j : goal.invariant-loop-j
invariant-loop-j l = (1 ≤ l.j) × ((k : ℕ) → k + 1 < l.j → k + 1 < length l.bounds → bound l.bounds k < bound l.bounds (k + 1))
