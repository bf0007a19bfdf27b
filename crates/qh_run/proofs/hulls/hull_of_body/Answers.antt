use Rattle.std.proofs.Common.{◌≤◌, length, arith}
use Rattle.qh_model.proofs.DistinctIds.{few_ids}
use Rattle.qh_run.proofs.hulls.hull_of_body.Goals as goal

pub overflow_cast-result-2 : goal.overflow_cast-result-2
overflow_cast-result-2 c =
    let few : length c.args.ids.now ≤ length c.args.pts.now = few_ids c.args.pts.now c.args.ids.now c.requires.distinct in
    omega (arith, few, c.requires.few)
