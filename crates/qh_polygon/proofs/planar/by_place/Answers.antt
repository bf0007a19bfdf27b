use Rattle.qh_model.proofs.Common.{ap, ◌∙◌, subst, sym, arith, take_all, IsNonDecreasingBy-from_sort, IsNonDecreasing, IsPermutation}
use Rattle.qh_polygon.proofs.planar.by_place.Goals as goal
use Rattle.qh_polygon.proofs.polygons.SortedPlaces.{sorted_indices}
use Rattle.qh_polygon.specs.steps.PlaceKeys.{ids_in}

pub returns-clause-order : goal.returns-clause-order
returns-clause-order c = record {
  keys = c.deref-ordered.result.now;
  same = subst (λ v. IsPermutation v c.deref-ordered.result.now) c.in_ok-keys.ensures.value
      (subst (λ v. IsPermutation c.in_ok-keys.keys.items v) (sym c.deref-ordered.ensures.value)
      c.sort_unstable.ensures.permutation);
  rising = subst IsNonDecreasing (sym c.deref-ordered.ensures.value) (IsNonDecreasingBy-from_sort (λ x. x) _ c.sort_unstable.ensures.sorted);
  is = c.loop-key.invariant ∙ ap ids_in (take_all _ _ (omega arith));
}

pub returns-clause-indices : goal.returns-clause-indices
returns-clause-indices c = sorted_indices _ _ _ (returns-clause-order c) c.in_ok-keys.ensures.known c.requires
