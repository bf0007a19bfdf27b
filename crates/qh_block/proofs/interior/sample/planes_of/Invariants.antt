-- The planes of the facets so far are listed.
use Rattle.qh_block.proofs.InnerPoints.{AreListed}
use Rattle.qh_block.proofs.interior.sample.planes_of.Given as goal

abbrev pub invariant-loop-facet : goal.invariant-loop-facet
invariant-loop-facet l = AreListed l.pts l.mesh l.facet-iterator l.planes.items
