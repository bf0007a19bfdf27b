-- The numbers are those of the hull of the points.
use Rattle.qh_model.proofs.Common.{◌≤◌, length, refl, arith, subst, sym, IfOk-weaker, IsDimension, place, Members, IsText}
use Rattle.qh_model.proofs.DistinctIds.{few_ids, ids_within, some_id}
use Rattle.qh_plane.proofs.DistinctLists.{id_set}
use Rattle.qh_laws.proofs.RankTexts.{ranks_are_text}
use Rattle.qh_serve.proofs.ranks.rank_text.Goals as goal

pub overflow_cast-numbers-2 : goal.overflow_cast-numbers-2
overflow_cast-numbers-2 c =
    let few : length c.args.ids.now ≤ length c.args.pts.now = few_ids c.args.pts.now c.args.ids.now c.requires.distinct in
    omega (arith, few, c.requires.few)

pub rank-requires-clause-some : goal.rank-requires-clause-some
rank-requires-clause-some c = some_id c.args.pts.now c.args.ids.now c.requires.distinct c.requires.some

pub rank-requires-clause-ids_in : goal.rank-requires-clause-ids_in
rank-requires-clause-ids_in c = ids_within c.args.pts.now c.args.ids.now c.requires.distinct

pub returns : goal.returns
returns c =
    let pts = c.args.pts.now in
    let ids = c.args.ids.now in
    let outs = c.args.outs.now in
    IfOk-weaker c.text.result _ _
    (λ t is. subst (IsText pts outs) (sym is)
    (ranks_are_text pts ids c.dimension.result c.requires.distinct c.requires.some
    (subst (λ k. IsDimension (place pts) (Members ids) k) (sym c.dimension.ensures) (c.rank.ensures.dimension (id_set pts ids c.requires.distinct)))
    _ refl refl refl outs c.requires.ranks))
    c.text.ensures
