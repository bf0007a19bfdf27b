-- The steps up of the polygons so far.
use Rattle.std.proofs.Common.{◌≡◌, take}
use Rattle.qh_bodies.specs.contract.SolidEdges.{all_edges_up}
use Rattle.qh_bodies.proofs.solid_edges.edges_of.Given as goal

abbrev pub invariant-loop-polygon : goal.invariant-loop-polygon
invariant-loop-polygon l = l.count ≡ all_edges_up (take l.polygon-index l.polygons)
