-- The remaining marks are those of facets that come later.
use Rattle.std.proofs.Common.{slice_index, ◌≡◌, ◌≤◌, ◌<◌, ℕ, length, true}
use Rattle.qh_surface.specs.contract.Walks.{mark_at}
use Rattle.qh_surface.proofs.quickhull.walk.unmark.Given as goal

abbrev pub invariant-loop-f : goal.invariant-loop-f
invariant-loop-f l = record {
  len : length l.marks ≡ length l.initial.marks;
  left : (g : ℕ) → mark_at l.marks g ≡ true → (j : ℕ) × (l.f-index ≤ j) × (j < length l.found) × (g ≡ slice_index l.found j);
}
