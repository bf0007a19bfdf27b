use Rattle.qh_board.specs.contract.Tokens.{task_node}
use Rattle.qh_tests_run.proofs.tests.board.passes.+climb.Given as goal

abbrev pub decreases-climb : goal.decreases-climb
decreases-climb l = task_node l.task
