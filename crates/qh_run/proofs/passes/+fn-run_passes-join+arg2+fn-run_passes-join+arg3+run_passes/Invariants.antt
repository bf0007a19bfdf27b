use Rattle.std.proofs.Common.{length, ◌+◌, ◌*◌}
use Rattle.qh_run.proofs.passes.+fn-run_passes-join+arg2+fn-run_passes-join+arg3+run_passes.Given as goal

abbrev pub decreases-join+arg2 : goal.decreases-join+arg2
decreases-join+arg2 g l = 2 * length l.passes.items + 1

abbrev pub decreases-join+arg3 : goal.decreases-join+arg3
decreases-join+arg3 g l = 2 * length l.others.items + 1

abbrev pub decreases-run_passes : goal.decreases-run_passes
decreases-run_passes g l = 2 * length l.passes.items
