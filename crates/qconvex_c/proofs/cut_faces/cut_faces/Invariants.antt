use Rattle.qh_model.proofs.Common.{◌≡◌, ℕ, ◌+◌, ◌<◌, [], length, slice_index, slice_index_or, slice_range}
use Rattle.qconvex_c.proofs.cut_faces.cut_faces.Given as goal

abbrev pub invariant-loop-number : goal.invariant-loop-number
invariant-loop-number l = record {
  count : length l.faces.items ≡ l.number;
  each : (j : ℕ) → j < l.number
      → slice_index_or l.faces.items j [] ≡ slice_range l.corners (slice_index l.offsets j) (slice_index l.offsets (j + 1));
}
