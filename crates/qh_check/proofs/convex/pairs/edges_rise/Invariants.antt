-- The edges so far rise strictly.
use Rattle.std.proofs.Common.{ℕ, ◌≡◌, ◌+◌, ◌/◌, ◌<◌, slice_index}
use Rattle.qh_check.specs.declared.convex.steps.TheConstants.{ROOM}
use Rattle.qh_check.proofs.convex.pairs.edges_rise.Given as goal

abbrev pub invariant-loop-next : goal.invariant-loop-next
invariant-loop-next l = (k m : ℕ) → m ≡ k + 1 → m < l.next → slice_index l.keys k / ROOM < slice_index l.keys m / ROOM
