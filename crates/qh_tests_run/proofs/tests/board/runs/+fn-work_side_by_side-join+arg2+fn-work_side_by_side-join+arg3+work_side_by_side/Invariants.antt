use Rattle.std.proofs.Common.{◌+◌, ◌*◌, length}
use Rattle.qh_tests_run.proofs.tests.board.runs.+fn-work_side_by_side-join+arg2+fn-work_side_by_side-join+arg3+work_side_by_side.Given as goal

abbrev pub decreases-join+arg2 : goal.decreases-join+arg2
decreases-join+arg2 g l = 2 * length l.passes.items + 1

abbrev pub decreases-join+arg3 : goal.decreases-join+arg3
decreases-join+arg3 g l = 2 * length l.others.items + 1

abbrev pub decreases-work_side_by_side : goal.decreases-work_side_by_side
decreases-work_side_by_side g l = 2 * length l.passes.items
