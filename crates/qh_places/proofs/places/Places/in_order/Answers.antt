-- The ids are those of the argument.
use Rattle.qh_model.proofs.Common.{◌∙◌, ap, length, map, sym, subst, length-map, place, In}
use Rattle.qh_places.proofs.places.Places.in_order.Goals as goal

pub points_of-requires : goal.points_of-requires
points_of-requires c = rw (c.deref.ensures.value, c.in_ok-ids.ensures.items) c.requires

pub invariant_of-result : goal.invariant_of-result
invariant_of-result c = record {
  same = ap length c.in_ok-points.ensures ∙ length-map c.deref.result.now (place c.args.pts.now) ∙ ap length c.deref.ensures.value;
  blocks = rw c.deref-2.ensures.value at c.in_ok-levels.ensures;
  lowest = rw c.deref-3.ensures.value at c.in_ok-leaves.ensures;
}

pub returns : goal.returns
returns c = record {
  same = λ l. (λ i. subst (In l) c.in_ok-ids.ensures.items i, λ i. subst (In l) (sym c.in_ok-ids.ensures.items) i);
  points = c.in_ok-points.ensures ∙ ap (map (place c.args.pts.now)) c.deref.ensures.value;
}
