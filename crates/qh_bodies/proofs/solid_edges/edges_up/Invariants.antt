-- The number counted so far, and the steps up on the rest of the path.
use Rattle.std.proofs.Common.{◌≡◌, ◌+◌, ◌≤◌, drop, length}
use Rattle.qh_bodies.specs.contract.SolidEdges.{ups_along}
use Rattle.qh_bodies.proofs.solid_edges.edges_up.Given as goal

abbrev pub invariant-loop-id : goal.invariant-loop-id
invariant-loop-id l = record {
  counted : l.count + length (ups_along l.from (drop l.id-index l.rest) l.first) ≡ length (ups_along l.first l.rest l.first);
  small : l.count ≤ l.id-index;
}
