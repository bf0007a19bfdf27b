-- The answer of one more call.
use Rattle.std.proofs.Common.{[], ◌∷◌, sym, subst, All}
use Rattle.std.proofs.lemmas.List.Elements.{All-nil, All-append, All-cons}
use Rattle.qh_threads.specs.steps.Answers.{IsAnswer}
use Rattle.qh_threads.proofs.claimed.claim.Goals as goal

pub loop-init : goal.loop-init
loop-init g c = subst (All (IsAnswer g.F.Fn c.args.f.now c.args.count)) (sym c.new-answers.ensures.items) (All-nil _)

pub loop-preserved : goal.loop-preserved
loop-preserved g c =
    let P = IsAnswer g.F.Fn c.args.f.now c.args.count in
    subst (All P) (sym c.in_ok-push.ensures.items)
    (All-append P c.loop.answers.items (record { index = c.fetch_add-index.result; value = c.f.result } ∷ []) c.loop.invariant
    (All-cons P (record { index = c.fetch_add-index.result; value = c.f.result }) [] (c.if-index-count.false, record { met = c.f.ensures }) (All-nil P)))
