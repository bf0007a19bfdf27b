-- No test finds the point past a side, or above.
use Rattle.qh_model.proofs.Common.{◌∙◌, ap, subst, sym, ℤ, pos, ◌<ℤ◌, place}
use Rattle.qh_check.{specs.steps.StepKeys.step_in, proofs.UnderSteps.not_both, proofs.UnderSteps.under_from}
use Rattle.qh_check.proofs.convex.hidden.Surroundings.is_under.Goals as goal

pub returns : goal.returns
returns c = λ t.
    under_from (place c.args.self.now.pts.now) c.args.self.now.middle c.args.p (step_in c.args.key) _ _ _
    (c.point_at-a.ensures ∙ ap (place c.args.self.now.pts.now) c.of-step.ensures.from)
    (c.point_at-b.ensures ∙ ap (place c.args.self.now.pts.now) c.of-step.ensures.to)
    (c.point_at-c.ensures ∙ ap (place c.args.self.now.pts.now) c.of-step.ensures.third) (λ h. (let e = c.is_below.ensures.1 h in cc (e, c.if-is_below.false)))
    (λ h. (let e = c.is_below-2.ensures.1 h in cc (e, c.if-is_below-2.false))) (λ h. (cc (c.is_below-3.ensures.1 h, c.if-is_below-3.false)))
    (λ h. not_both _ t (c.sees.ensures.1 (subst (λ (v : ℤ). pos 0 <ℤ v) (sym (c.through.ensures c.args.p)) h)))
