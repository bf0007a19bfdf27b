use Rattle.qconvex_c.specs.{contract.Neighbors.side_from, contract.Neighbors.side_to, steps.SideKeys.AreKeys}
use Rattle.qconvex_c.proofs.side_keys.SideKeys.sorted.Given as goal

abbrev pub invariant-loop-side : goal.invariant-loop-side
invariant-loop-side l = record {
  up : AreKeys l.side (side_from l.triangles) (side_to l.triangles) l.up.items;
  down : AreKeys l.side (side_to l.triangles) (side_from l.triangles) l.down.items;
}
