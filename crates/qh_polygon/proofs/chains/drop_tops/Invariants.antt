use Rattle.qh_model.proofs.Common.{◌≡◌, reverse, vec_len, AreIndices}
use Rattle.qh_polygon.specs.steps.Chains.{turn_of, kept}
use Rattle.qh_polygon.proofs.chains.drop_tops.Given as goal

abbrev pub invariant-loop-next : goal.invariant-loop-next
invariant-loop-next l = record {
  indices : AreIndices l.pts l.stack.items;
  same : kept (turn_of l.pts l.normal) l.next (reverse l.stack.items) ≡ kept (turn_of l.pts l.normal) l.next (reverse l.initial.stack.items);
}

abbrev pub decreases-loop-next : goal.decreases-loop-next
decreases-loop-next l = vec_len l.stack
