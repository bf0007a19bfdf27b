use Rattle.std.proofs.lemmas.Result.{IfOk-weaker}
use Rattle.qh_model.proofs.DistinctIds.{some_id}
use Rattle.qh_serve.proofs.AnswerLemmas.{names_of}
use Rattle.qh_serve.proofs.answers.text_of.Goals as goal

pub hull_of-requires-clause-some : goal.hull_of-requires-clause-some
hull_of-requires-clause-some g c κs lives =
    rw c.deref-2.ensures.value (some_id c.args.pts.now c.in_ok-ids.ids.items c.in_ok-ids.ensures c.requires.some)

pub text_in_threads-requires-after_bounds : goal.text_in_threads-requires-after_bounds
text_in_threads-requires-after_bounds g c lifetimes lives = names_of c.args.pts.now c.in_ok-hull.hull c.in_ok-hull.ensures

pub returns : goal.returns
returns g c =
    IfOk-weaker c.text_in_threads.result _ _ (λ t is. record { hull = c.in_ok-hull.hull; right = c.in_ok-hull.ensures; is = is })
    (rw c.outs-outs.ensures at c.text_in_threads.ensures)
