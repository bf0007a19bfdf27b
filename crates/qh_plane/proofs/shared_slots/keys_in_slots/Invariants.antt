use Rattle.qh_plane.proofs.shared_slots.keys_in_slots.Given as goal
use Rattle.qh_plane.specs.steps.{HashedKeys.AreKeysBelow, SharedSlots.MarkedHashes}

abbrev pub invariant-loop-number : goal.invariant-loop-number
invariant-loop-number l = AreKeysBelow l.pts (MarkedHashes l.marks) l.number l.keys.items
