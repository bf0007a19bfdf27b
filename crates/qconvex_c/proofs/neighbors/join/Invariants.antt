-- The sides so far are joined, and the keys before the position have lower ends than the rest.
use Rattle.qh_model.proofs.Common.{ℕ, ◌*◌, ◌/◌, ◌≤◌, ◌<◌, length, slice_index}
use Rattle.qconvex_c.specs.{declared.side_keys.TheConstants.SIDE_ROOM, steps.SideKeys.AreJoined}
use Rattle.qconvex_c.proofs.neighbors.join.Given as goal

abbrev pub invariant-loop-key : goal.invariant-loop-key
invariant-loop-key l = record {
  joined : AreJoined l.key-index l.front l.back l.initial.neighbors l.neighbors;
  within : l.at ≤ length l.back;
  before : (j k : ℕ) → j < l.at → l.key-index ≤ k → k < length l.front
      → slice_index l.back j < slice_index l.front k / SIDE_ROOM * SIDE_ROOM;
}
