use Rattle.std.proofs.Common.{◌+◌, ◌*◌}
use Rattle.qh_threads.proofs.indices.+calls.Given as goal

abbrev pub decreases-indices_beside : goal.decreases-indices_beside
decreases-indices_beside g l = 2 * l.count

abbrev pub decreases-others : goal.decreases-others
decreases-others g l = 2 * l.last + 1
