use Rattle.qh_plane.specs.steps.SharedSlots.{IsMarkedUpTo}
use Rattle.qh_plane.proofs.shared_slots.shared_slots.Given as goal

abbrev pub invariant-loop-point : goal.invariant-loop-point
invariant-loop-point l = IsMarkedUpTo l.pts l.slots l.point-index l.taken.items l.shared.items
