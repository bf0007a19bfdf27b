-- The first position of a set is removed.
use Rattle.qh_model.proofs.Common.{length, drop, arith, rules, ap, refl, [], sum_by-set}
use Rattle.qh_surface.{specs.contract.OutsideSets.set_of, specs.contract.OutsideSets.listed, proofs.Steps.kept, proofs.Steps.value_after, proofs.Steps.taken}
use Rattle.qh_surface.proofs.outside_sets.OutsideSets.take_first.Goals as goal

pub invariant_of-self : goal.invariant_of-self
invariant_of-self c =
    let place = rw (← c.index-place.ensures) at c.requires in
    let first = rw (← c.index-place.ensures) at c.in_ok-first.ensures.first in
    (_, _, taken (kept c.self.invariant c.self.view_is) place _ c.index_mut.ensures.value _ _ first _ (rw c.index.ensures at c.index-2.ensures))

pub returns : goal.returns
unfolding invariant_of-self
returns c =
    let e = value_after c.self.invariant c.self.view_is refl (invariant_of-self c).2 in
    let f = rw (← c.index-place.ensures) at c.in_ok-first.ensures in let place = c.index-place.result in
    let s = sum_by-set length c.args.self.now.sets place (drop 1 (set_of c.args.self.now place)) []
    (rw (← c.index-place.ensures) at c.requires) in
    rw (← c.index-place.ensures) (record {
      none = search rules;
      first = f.first;
      position = f.position;
      sets = λ i. (e i).sets;
      orphans = λ i. (e i).orphans;
      positions = λ i. (e i).positions;
      listed = omega (arith, ap listed e, ap length f.first);
      listed_still = search rules;
    })
