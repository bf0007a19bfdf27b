-- The facets of the cone before j are written.
use Rattle.std.proofs.Common.{ℕ, List, drop, ◌++◌}
use Rattle.qh_mesh.specs.steps.{Places.IsPool, Cones.Written}
use Rattle.qh_mesh.proofs.cone.write_cone.Given as goal

abbrev pub invariant-loop-j : goal.invariant-loop-j
invariant-loop-j l = record {
  written : Written l.initial.facets l.facets l.horizon l.made l.apex l.j;
  pool : (places : List ℕ) → IsPool l.initial.facets (l.made ++ places) → IsPool l.facets (drop l.j l.made ++ places);
}
