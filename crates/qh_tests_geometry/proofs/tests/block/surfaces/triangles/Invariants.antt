-- The remaining facets are live.
use Rattle.std.proofs.Common.{All}
use Rattle.qh_mesh.specs.contract.Replacement.{IsLive}
use Rattle.qh_tests_geometry.proofs.tests.block.surfaces.triangles.Given as goal

abbrev pub invariant-loop-f : goal.invariant-loop-f
invariant-loop-f l = All (IsLive l.mesh) l.f-iterator
