use Rattle.qh_model.proofs.Common.{◌+◌, ◌≤◌, ◌<◌, length, ℕ, place}
use Rattle.qh_plane.specs.steps.HashedKeys.{place_number}
use Rattle.qh_plane.proofs.sorted_points.numbers_rise.Given as goal

-- the numbers before j rise
abbrev pub invariant-loop-j : goal.invariant-loop-j
invariant-loop-j l = (1 ≤ l.j) × ((k : ℕ) → k + 1 < l.j → k + 1 < length l.pts → place_number (place l.pts k) < place_number (place l.pts (k + 1)))
