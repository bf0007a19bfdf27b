-- The distinct ids of points are a set of indices of them.
use Rattle.std.proofs.lemmas.Result.{IfOk-weaker}
use Rattle.qh_model.proofs.DistinctIds.{ids_within}
use Rattle.qh_plane.proofs.DistinctLists.{id_set}
use Rattle.qh_tests_geometry.proofs.tests.distinct_ids.Goals as goal

pub returns-clause-indices : goal.returns-clause-indices
returns-clause-indices c =
    IfOk-weaker c.distinct_alone.result _ _ (λ v ids. ids_within c.args.pts.now v.items ids) c.distinct_alone.ensures

pub returns-clause-set : goal.returns-clause-set
returns-clause-set c =
    IfOk-weaker c.distinct_alone.result _ _ (λ v ids. id_set c.args.pts.now v.items ids) c.distinct_alone.ensures
