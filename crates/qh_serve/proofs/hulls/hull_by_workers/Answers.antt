use Rattle.std.proofs.Common.{◌≤◌, length, arith}
use Rattle.qh_model.proofs.DistinctIds.{few_ids}
use Rattle.qh_serve.proofs.hulls.hull_by_workers.Goals as goal

pub overflow_cast-ids : goal.overflow_cast-ids
overflow_cast-ids g c =
    let few : length c.args.ids.now ≤ length c.args.pts.now = few_ids c.args.pts.now c.args.ids.now c.requires.distinct in
    omega (arith, few, c.requires.few)

pub even_cut-requires-clause-few : goal.even_cut-requires-clause-few
even_cut-requires-clause-few g c =
    let few : length c.args.ids.now ≤ length c.args.pts.now = few_ids c.args.pts.now c.args.ids.now c.requires.distinct in
    omega (arith, few, c.requires.few)
