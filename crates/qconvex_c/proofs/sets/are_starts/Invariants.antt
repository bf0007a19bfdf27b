use Rattle.std.proofs.Common.{◌≡◌, ℕ, ◌+◌, ◌≤◌, ◌<◌, slice_index}
use Rattle.qconvex_c.proofs.sets.are_starts.Given as goal

abbrev pub invariant-loop-start : goal.invariant-loop-start
invariant-loop-start l = record {
  rising : (j : ℕ) → j + 1 < l.start-index → slice_index l.starts j ≤ slice_index l.starts (j + 1);
  within : (j : ℕ) → j < l.start-index → slice_index l.starts j ≤ l.count;
  before : (j : ℕ) → j + 1 ≡ l.start-index → slice_index l.starts j ≡ l.last;
  first : l.start-index ≡ 0 → l.last ≡ 0;
}
