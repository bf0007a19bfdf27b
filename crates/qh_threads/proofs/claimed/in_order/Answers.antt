-- The answers of one more thread.
use Rattle.std.proofs.{Common.◌∙◌, Common.subst, Common.All, Common.IfOk, lemmas.List.Elements.All-tail}
use Rattle.std.specs.{Fork.GivesEach, Vec.Iter.into_iter_items}
use Rattle.qh_threads.specs.steps.Answers.{AreAnswers}
use Rattle.qh_threads.proofs.claimed.in_order.Goals as goal

pub loop-answers-preserved : goal.loop-answers-preserved
loop-answers-preserved g c =
    let inv = c.loop-answers.invariant in let rest = into_iter_items c.next.new.self in
    let P = AreAnswers g.F.Fn c.args.f.now c.args.count in
    record {
      len = c.place-slots.ensures.len ∙ inv.len;
      placed = c.place-slots.ensures.placed;
      left = All-tail P c.in-Some.answers rest (subst (All P) c.in-Some.ensures.steps.0 inv.left);
    }

pub returns-clause-each : goal.returns-clause-each
returns-clause-each g c =
    subst (λ n. IfOk c.values.result (λ v. GivesEach g.F.Fn c.args.f.now n v.items)) c.loop-answers.invariant.len c.values.ensures.each
