-- The faces of one more part.
use Rattle.qh_model.proofs.Common.{inl, inr, refl, subst, IsPermutation-sym, IfOk, IfSome, In}
use Rattle.{qh_model.proofs.Members.in_permutation, qh_model.proofs.lists.Joined.of_append, qh_bodies.proofs.StepCounts.closed_of_both}
use Rattle.qh_parts.{specs.steps.Given.IsContribution, proofs.Popped.of_last, proofs.Popped.of_front}
use Rattle.qh_parts.proofs.given.all_given.Goals as goal

pub loop-answer-init : goal.loop-answer-init
loop-answer-init c = (
  (
    λ ids kept d inside keeps q m. absurd (subst (λ v. In q v) c.none-faces.ensures m),
    λ ids d inside. rw (c.none-faces.ensures, c.new-gone.ensures.items) (λ u v. refl),
  ),
  c.requires,
)

pub loop-answer-preserved : goal.loop-answer-preserved
loop-answer-preserved c =
    let pts = c.args.set.pts.now in let shared = c.args.set.shared.now in let parts = c.args.set.parts.now in
    let all = rw c.in-Some.ensures.items at c.loop-answer.invariant.1 in let part = c.in-Some-found.part in
    let own = rw (c.in_ok-found.was, c.in-Some-found.is) at (of_last (λ r. IfOk r (λ found. IfSome found (IsContribution pts shared parts))) _ _ all) in (
      (
        λ ids kept d inside keeps q m. elim (of_append _ _ q (in_permutation _ _ (IsPermutation-sym _ _ c.in_ok-faces.ensures) q m)) [
          | inl o ↦ c.loop-answer.invariant.0.0 ids kept d inside keeps q o
          | inr o ↦ own.0 ids kept d inside keeps q o
        ],
        λ ids d inside. rw c.in_ok-append.ensures.items
            (closed_of_both c.loop-answer.faces c.loop-answer.gone.items part.faces part.gone.items _ c.in_ok-faces.ensures
            (c.loop-answer.invariant.0.1 ids d inside) (own.1 ids d inside)),
      ),
      of_front (λ r. IfOk r (λ found. IfSome found (IsContribution pts shared parts))) _ _ all,
    )
