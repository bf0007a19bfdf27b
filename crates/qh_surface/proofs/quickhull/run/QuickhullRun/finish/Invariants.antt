-- The run is under way over the same points, and fewer of them are listed each time.
use Rattle.std.proofs.Common.{◌≡◌}
use Rattle.qh_surface.specs.{contract.OutsideSets.listed, steps.Runs.IsUnderWay, steps.RunStates.state_of}
use Rattle.qh_surface.proofs.quickhull.run.QuickhullRun.finish.Given as goal

abbrev pub invariant-loop-facet : goal.invariant-loop-facet
invariant-loop-facet l = record { points : l.self.points.items ≡ l.initial.self.points.items; under_way : IsUnderWay (state_of l.self) }

abbrev pub decreases-loop-facet : goal.decreases-loop-facet
decreases-loop-facet l = listed l.self.sets
