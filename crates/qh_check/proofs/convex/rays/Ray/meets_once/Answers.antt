-- The current triangle is met, or missed.
use Rattle.qh_model.proofs.Common.{◌≡◌, ◌∙◌, ◌+◌, ap, inl, inr, subst, sym, true, false, ◌⊎◌, place}
use Rattle.std.proofs.lemmas.List.Sums.{count_by_more_yes, count_by_more_no}
use Rattle.{qh_laws.specs.contract.LocallyConvex.is_met, qh_laws.specs.contract.LocallyConvex.IsMissed, qh_check.proofs.convex.rays.Ray.meets_once.Goals.in-Met}
use Rattle.qh_check.{proofs.convex.rays.Ray.meets_once.Goals.in-Missed, specs.steps.Rays.IsInside, specs.steps.Rays.IsPassage, proofs.Prefixes.each_more}
use Rattle.qh_check.proofs.convex.rays.Ray.meets_once.Goals as goal

pub loop-triangle-preserved : goal.loop-triangle-preserved
loop-triangle-preserved c =
    let at = place c.args.pts.now in let z = c.args.self.now.from in let d = c.args.self.now.through in
    let ts = c.args.triangles.now in let i = c.loop-triangle.triangle-index in let own = c.triangle-item.result in
    let is = c.triangle-item.is in let l = c.loop-triangle-test.true in let sofar = c.loop-triangle.invariant in
    elim c.match-passage.branch [
      | in-Met w ↦ (
          let e = subst (IsPassage at z d own) w.in-Met.is c.passage.ensures in (
            w.met-is ∙ ap (λ n. n + 1) sofar.0
                ∙ sym (count_by_more_yes (is_met at z d) ts i own l (subst (λ t. is_met at z d t ≡ true) is e.1)),
            each_more (IsInside at z) ts i own own l is sofar.1 e.0,
            each_more (λ t. (is_met at z d t ≡ true) ⊎ IsMissed at z d t) ts i own own l is sofar.2 (inl e.1),
          )
          )
      | in-Missed w ↦ (
          let e = subst (IsPassage at z d own) w.in-Missed.is c.passage.ensures in (
            w.met-is ∙ sofar.0 ∙ sym (count_by_more_no (is_met at z d) ts i own l (subst (λ t. is_met at z d t ≡ false) is e.1)),
            each_more (IsInside at z) ts i own own l is sofar.1 e.0,
            each_more (λ t. (is_met at z d t ≡ true) ⊎ IsMissed at z d t) ts i own own l is sofar.2 (inr e.2),
          )
          )
    ]
