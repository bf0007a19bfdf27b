-- The planes of the facets so far are written.
use Rattle.{std.proofs.Common.◌≡◌, std.proofs.Common.length, qh_surface.proofs.runs.RenewedPlanes.AreRenewed}
use Rattle.qh_surface.proofs.quickhull.planes.renew.Given as goal

abbrev pub invariant-loop-facet : goal.invariant-loop-facet
invariant-loop-facet l = record {
  len : length l.planes.items ≡ length l.initial.planes.items;
  renewed : AreRenewed l.pts l.mesh l.initial.planes.items l.made l.facet-index l.planes.items;
}
