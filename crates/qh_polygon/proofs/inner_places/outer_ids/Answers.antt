-- The kept ids are in the set, and pass a test that all extreme ids pass.
use Rattle.qh_model.proofs.{Common.In, Common.IsStrictlyIncreasing, Common.subst, Common.sym, hulls.ExtremeParts.part_indices, lists.Filters.of_filter}
use Rattle.qh_polygon.proofs.InnerPlaces.{extreme_left}
use Rattle.qh_polygon.specs.steps.{Chains.turn_of, InnerPlaces.is_outside}
use Rattle.std.proofs.lemmas.List.Kept.{IsStrictlyIncreasing-filter}
use Rattle.qh_polygon.proofs.inner_places.outer_ids.Goals as goal

pub returns-clause-indices : goal.returns-clause-indices
returns-clause-indices c =
    let ids = c.args.ids.now in let kept = c.in_ok-ids_outside in
    let outside = is_outside (turn_of c.args.pts.now c.args.normal.now) c.deref-2.result.now in
    part_indices c.args.pts.now ids kept.field-0.items c.requires (λ i m. (of_filter outside ids i (subst (In i) kept.ensures m)).0)

pub returns-clause-rising : goal.returns-clause-rising
returns-clause-rising c = λ r.
    let outside = is_outside (turn_of c.args.pts.now c.args.normal.now) c.deref-2.result.now in
    subst IsStrictlyIncreasing (sym c.in_ok-ids_outside.ensures) (IsStrictlyIncreasing-filter outside c.args.ids.now r)

pub returns-clause-within : goal.returns-clause-within
returns-clause-within c = λ i m.
    let outside = is_outside (turn_of c.args.pts.now c.args.normal.now) c.deref-2.result.now in
    (of_filter outside c.args.ids.now i (subst (In i) c.in_ok-ids_outside.ensures m)).0

pub returns-clause-extremes : goal.returns-clause-extremes
returns-clause-extremes c = λ h i e.
    let cycle = c.in_ok-cycle in let kept = rw c.deref-2.ensures.value at c.in_ok-ids_outside.ensures in
    subst (In i) (sym kept) (extreme_left c.args.pts.now c.args.ids.now cycle.cycle.items c.args.normal.now h cycle.ensures.members i e)
