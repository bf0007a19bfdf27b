use Rattle.qh_serve.proofs.AnswerLemmas.{names_of}
use Rattle.qh_tests_serve.proofs.tests.workers.gated.text_by.Goals as goal

pub text-requires : goal.text-requires
text-requires g c = names_of c.args.points.now c.in_ok-hull.hull c.in_ok-hull.ensures.hull
