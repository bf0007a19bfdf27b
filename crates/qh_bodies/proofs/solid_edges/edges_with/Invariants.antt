-- The steps up of the triangles so far.
use Rattle.std.proofs.Common.{◌≡◌, map, take}
use Rattle.qh_bodies.specs.{contract.SolidEdges.all_edges_up, steps.FaceKeys.triangle_in}
use Rattle.qh_bodies.proofs.solid_edges.edges_with.Given as goal

abbrev pub invariant-loop-key : goal.invariant-loop-key
invariant-loop-key l = l.count ≡ all_edges_up (map triangle_in (take l.key-index l.keys))
