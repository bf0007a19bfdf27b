-- The starts so far cover the near positions up to a position.
use Rattle.{std.proofs.Common.◌-◌, std.proofs.Common.length, qh_places.specs.contract.Near.IsNearUpTo}
use Rattle.qh_places.proofs.places.Places.near.Given as goal

abbrev pub invariant-loop-from : goal.invariant-loop-from
invariant-loop-from l = IsNearUpTo l.self.points.items l.bundle l.starts.items l.from

abbrev pub decreases-loop-from : goal.decreases-loop-from
decreases-loop-from l = length l.self.points.items - l.from
