-- The number of sides so far that meet at the corner.
use Rattle.std.proofs.Common.{◌≡◌, ◌+◌}
use Rattle.qh_mesh.specs.steps.Horizons.{other, rank}
use Rattle.qh_mesh.proofs.slots.find_mate.Given as goal

abbrev pub invariant-loop-i : goal.invariant-loop-i
invariant-loop-i l = l.left + rank l.horizon (other l.end) l.at l.i ≡ rank l.horizon l.end l.at l.j
