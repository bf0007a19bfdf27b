-- The wedges so far are a ring, and the next facet is a new one.
use Rattle.{qh_model.specs.headline.Sets.In, qh_surface.specs.steps.Cones.AreWedges, qh_surface.specs.steps.Cones.apex_of}
use Rattle.qh_surface.proofs.quickhull.cone_ring.go_round.Given as goal

abbrev pub invariant-loop : goal.invariant-loop
invariant-loop l = record { named : In l.facet l.made; wedges : AreWedges l.planes l.made (apex_of l.pts l.mesh l.made) l.wedges.items }
