-- The list has the keys of both, in another order.
use Rattle.std.proofs.lemmas.List.Sorted.{IsNonDecreasingBy-from_sort}
use Rattle.qh_bodies.proofs.StepBorders.{steps_and_back}
use Rattle.qh_bodies.proofs.borders.steps_and_back.Goals as goal

pub returns : goal.returns
returns c = record {
  steps = steps_and_back c.args.polygons.now c.args.others.now _ _ _ _ c.in_ok-keys.ensures c.in_ok-other_keys.ensures
      (rw c.deref.ensures.value at c.in_ok-back.ensures)
      (rw c.in_ok-append.ensures.items at c.sort_unstable.ensures.permutation);
  sorted = IsNonDecreasingBy-from_sort (λ x. x) _ c.sort_unstable.ensures.sorted;
}
