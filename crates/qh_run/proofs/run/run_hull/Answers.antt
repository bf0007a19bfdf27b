-- The distinct ids of a list are a set.
use Rattle.qh_model.proofs.DistinctIds.{ids_within}
use Rattle.qh_plane.proofs.DistinctLists.{id_set}
use Rattle.qh_run.proofs.run.run_hull.Goals as goal

pub run_body-requires-clause-indices : goal.run_body-requires-clause-indices
run_body-requires-clause-indices g c κs lives = ids_within c.args.pts.now c.args.ids.now c.requires.distinct

pub run_body-requires-clause-set : goal.run_body-requires-clause-set
run_body-requires-clause-set g c κs lives = id_set c.args.pts.now c.args.ids.now c.requires.distinct
