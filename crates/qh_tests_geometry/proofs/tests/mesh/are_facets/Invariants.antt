-- The facets so far are live and listed once.
use Rattle.std.proofs.Common.{All, ◌<◌, take}
use Rattle.qh_mesh.specs.contract.Replacement.{AreFacets}
use Rattle.qh_tests_geometry.proofs.tests.mesh.are_facets.Given as goal

abbrev pub invariant-loop-f : goal.invariant-loop-f
invariant-loop-f l = record {
  facets : AreFacets l.mesh (take l.f-index l.list);
  below : All (λ f. f < l.next) (take l.f-index l.list);
}
