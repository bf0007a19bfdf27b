-- The point of the current key lies under a triangle.
use Rattle.qh_model.proofs.Common.{◌∙◌, ap, get_or, refl, place}
use Rattle.qh_check.{specs.steps.Hidden.id_in, specs.steps.Hidden.IsUnderOne, proofs.Prefixes.each_more}
use Rattle.qh_check.proofs.convex.hidden.Surroundings.are_under.Goals as goal

pub loop-key-preserved : goal.loop-key-preserved
loop-key-preserved c =
    let s = c.args.self.now in let keys = c.args.keys.now in let i = c.loop-key.key-index in (
      c.walk-step.ensures,
      each_more (λ key. IsUnderOne (place s.pts.now) s.up.now s.middle (place s.pts.now (id_in key))) keys i (get_or keys i 0) 0
          c.loop-key-test.true refl c.loop-key.invariant.1
          (rw (c.point_at-p.ensures ∙ ap (place s.pts.now) c.id_of.ensures) at (c.is_under_step.ensures c.if-not-is_under_step.false)),
    )
