-- The ids so far are marked, and marks stay set.
use Rattle.std.proofs.Common.{◌≡◌, ℕ, ◌<◌, slice_index, length, true}
use Rattle.qh_surface.specs.contract.Walks.{mark_at}
use Rattle.qh_parts_join.proofs.parts.set_marks.Given as goal

abbrev pub invariant-loop-id : goal.invariant-loop-id
invariant-loop-id l = (length l.marks.items ≡ length l.initial.marks.items)
    × ((n : ℕ) → n < l.id-index → mark_at l.marks.items (slice_index l.ids n) ≡ true)
    × ((i : ℕ) → mark_at l.initial.marks.items i ≡ true → mark_at l.marks.items i ≡ true)
