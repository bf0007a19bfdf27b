-- All points before are processed.
use Rattle.qh_plane.specs.steps.FirstIds.{AreSeen}
use Rattle.qh_plane.proofs.first_ids.distinct_in_slots.Given as goal

abbrev pub invariant-loop-number : goal.invariant-loop-number
invariant-loop-number l = AreSeen l.pts l.firsts l.number
