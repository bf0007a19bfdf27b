-- At the end of the last round no facet waits.
use Rattle.qh_surface.specs.steps.RunStates.{state_of}
use Rattle.qh_surface.proofs.quickhull.run.QuickhullRun.finish.Goals as goal

pub add-requires : goal.add-requires
add-requires c = c.in-Some.ensures.picked (state_of c.loop-facet.self) c.loop-facet.invariant.under_way

pub returns-clause-done : goal.returns-clause-done
returns-clause-done c = c.in_default.ensures.done (state_of c.loop-facet.self) c.loop-facet.invariant.under_way
