use Rattle.std.proofs.Common.{◌≡◌, ◌<◌, ◌≤◌, ℕ, length, get_or, vec_len, vec_capacity}
use Rattle.qh_plane.proofs.distinct_points.ids_below.Given as goal

abbrev pub invariant-loop-number : goal.invariant-loop-number
invariant-loop-number l = record {
  len : length l.ids.items ≡ l.number;
  each : (k : ℕ) → k < l.number → get_or l.ids.items k 0 ≡ k;
  count : vec_len l.ids ≡ l.number;
  room : l.count ≤ vec_capacity l.ids;
}
