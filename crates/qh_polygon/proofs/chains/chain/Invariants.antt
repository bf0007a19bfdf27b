use Rattle.qh_model.proofs.Common.{◌≡◌, reverse, drop, [], AreIndices}
use Rattle.qh_polygon.specs.steps.Chains.{turn_of, chain}
use Rattle.qh_polygon.proofs.chains.chain.Given as goal

abbrev pub invariant-loop-next : goal.invariant-loop-next
invariant-loop-next l = record {
  indices : AreIndices l.pts l.stack.items;
  same : chain (turn_of l.pts l.normal) (reverse l.stack.items) (drop l.next-index l.ids) ≡ chain (turn_of l.pts l.normal) [] l.ids;
}
