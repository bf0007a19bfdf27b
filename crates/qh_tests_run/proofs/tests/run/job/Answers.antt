use Rattle.std.proofs.{Common.arith, lemmas.Grind.common_steps}
use Rattle.qh_tests_run.proofs.tests.run.job.Goals as goal

pub invariant_of-result-clause-whole : goal.invariant_of-result-clause-whole
invariant_of-result-clause-whole c = grind (arith, common_steps)
