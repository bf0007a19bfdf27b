-- The ids so far are in the list.
use Rattle.qh_model.proofs.Common.{ℕ, ◌<◌, slice_index, In}
use Rattle.qh_parts_join.proofs.parts.are_in.Given as goal

abbrev pub invariant-loop-id : goal.invariant-loop-id
invariant-loop-id l = (n : ℕ) → n < l.id-index → In (slice_index l.some n) l.ids
