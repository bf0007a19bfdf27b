use Rattle.std.proofs.{Math.Logic.∥∥₁_elim, Props.props}
use Rattle.qh_model.proofs.DistinctIds.{ids_within}
use Rattle.qh_plane.proofs.DistinctLists.{id_set}
use Rattle.qh_run.proofs.job.Job.blocks_of.Goals as goal

pub new-requires-clause-indices : goal.new-requires-clause-indices
new-requires-clause-indices c =
    let job = c.args.self.now in ∥∥₁_elim job.distinct (Prim.hlevel props) (ids_within job.pts.now job.ids.now)

pub new-requires-clause-set : goal.new-requires-clause-set
new-requires-clause-set c =
    let job = c.args.self.now in record {
      rising = ∥∥₁_elim job.distinct (Prim.hlevel props) (λ d. d.rising);
      distinct = ∥∥₁_elim job.distinct (Prim.hlevel props) (λ d. (id_set job.pts.now job.ids.now d).distinct);
    }
