-- One more part.
use Rattle.{std.specs.Prelude.IfOk, std.specs.Prelude.IfSome, qh_parts_join.specs.contract.Parts.IsPartOf}
use Rattle.{qh_model.proofs.Members.all_and, qh_model.proofs.Members.all_none, qh_parts.proofs.Popped.of_last, qh_parts.proofs.Popped.of_front}
use Rattle.qh_parts.proofs.pieces.all_parts.Goals as goal

pub loop-answer-init : goal.loop-answer-init
loop-answer-init c = (all_none (IsPartOf c.args.pieces.pts.now c.args.pieces.shared.now) _ c.new-parts.ensures.items, c.requires)

pub loop-answer-preserved : goal.loop-answer-preserved
loop-answer-preserved c =
    let P = IsPartOf c.args.pieces.pts.now c.args.pieces.shared.now in
    let all = rw c.in-Some.ensures.items at c.loop-answer.invariant.1 in
    let part = rw (c.in_ok-found.was, c.in-Some-found.is) at (of_last (λ r. IfOk r (λ found. IfSome found P)) _ _ all) in
    (rw c.in_ok-push.ensures.items (all_and P _ _ c.loop-answer.invariant.0 part), of_front (λ r. IfOk r (λ found. IfSome found P)) _ _ all)
