-- The ids so far are indices.
use Rattle.std.proofs.Common.{ℕ, ◌<◌, length, slice_index}
use Rattle.qh_parts.proofs.pieces.are_indices.Given as goal

abbrev pub invariant-loop-id : goal.invariant-loop-id
invariant-loop-id l = (n : ℕ) → n < l.id-index → slice_index l.ids n < length l.pts
