use Rattle.std.proofs.Common.{◌≤◌, ◌<◌, ℕ, length, get_or}
use Rattle.qh_polygon.proofs.planar.least_position.Given as goal

abbrev pub invariant-loop-i : goal.invariant-loop-i
invariant-loop-i l = record {
  within : 0 < length l.ids → l.least < length l.ids;
  bound : l.least ≤ length l.ids;
  least : (k : ℕ) → k < l.i → get_or l.ids l.least 0 ≤ get_or l.ids k 0;
}
