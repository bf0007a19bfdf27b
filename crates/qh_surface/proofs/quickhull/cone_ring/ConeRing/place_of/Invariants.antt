-- The search stays within the ring, and its range shrinks.
use Rattle.std.proofs.Common.{◌<◌, ◌-◌, length}
use Rattle.qh_surface.proofs.quickhull.cone_ring.ConeRing.place_of.Given as goal

abbrev pub invariant-loop-high : goal.invariant-loop-high
invariant-loop-high l = record { ordered : l.low < l.high; within : l.high < length l.self.wedges.items }

abbrev pub decreases-loop-high : goal.decreases-loop-high
decreases-loop-high l = l.high - l.low
