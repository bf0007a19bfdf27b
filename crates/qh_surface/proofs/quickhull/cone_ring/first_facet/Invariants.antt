-- The last facet tested is a new one.
use Rattle.qh_model.specs.headline.Sets.{In}
use Rattle.qh_surface.proofs.quickhull.cone_ring.first_facet.Given as goal

abbrev pub invariant-loop : goal.invariant-loop
invariant-loop l = In l.before.facet l.made
