-- The number of sides so far that end, or start, at the corner.
use Rattle.std.proofs.Common.{◌≡◌, ◌≤◌}
use Rattle.qh_mesh.specs.steps.Horizons.{rank}
use Rattle.qh_mesh.proofs.slots.rank.Given as goal

abbrev pub invariant-loop-i : goal.invariant-loop-i
invariant-loop-i l = record { is : l.count ≡ rank l.horizon l.end l.at l.i; within : l.count ≤ l.i }
