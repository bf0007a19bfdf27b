use Rattle.qh_model.proofs.Common.{◌<◌, length, subst, sym, AreIndices, IsIdSet, IsBody, place, Members}
use Rattle.qh_model.proofs.DistinctIds.{ids_within, some_id}
use Rattle.qh_plane.proofs.DistinctLists.{id_set}
use Rattle.qh_run.proofs.hulls.hull_alone.Goals as goal

pub body_alone-requires-clause-some : goal.body_alone-requires-clause-some
body_alone-requires-clause-some c =
    subst (λ xs. 0 < length xs) (sym c.deref.ensures.value)
    (some_id c.args.pts.now c.in_ok-ids.ids.items c.in_ok-ids.ensures c.requires.some)

pub body_alone-requires-clause-indices : goal.body_alone-requires-clause-indices
body_alone-requires-clause-indices c =
    subst (AreIndices c.args.pts.now) (sym c.deref.ensures.value)
    (ids_within c.args.pts.now c.in_ok-ids.ids.items c.in_ok-ids.ensures)

pub body_alone-requires-clause-set : goal.body_alone-requires-clause-set
body_alone-requires-clause-set c = subst (IsIdSet c.args.pts.now) (sym c.deref.ensures.value) (id_set c.args.pts.now c.in_ok-ids.ids.items c.in_ok-ids.ensures)

pub hull_of_body-requires-clause-body : goal.hull_of_body-requires-clause-body
hull_of_body-requires-clause-body c =
    let pts = c.args.pts.now in
    subst (λ xs. IsBody (place pts) (Members xs) c.in_ok-body.body) (sym c.deref-2.ensures.value) (rw (c.deref.ensures.value) at c.in_ok-body.ensures)
