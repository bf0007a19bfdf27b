-- The reversed triangle sees the point exactly if the point is strictly below this triangle.
use Rattle.std.proofs.Common.{◌∙◌}
use Rattle.qh_model.proofs.algebra.{Signs.negated_positive, Signs.opposite_negative, VectorIdentities.vol-flip}
use Rattle.qh_check.proofs.convex.pairs.is_below.Goals as goal

pub returns : goal.returns
returns c =
    let p = c.args.p in
    let turned = c.through.ensures p ∙ vol-flip c.args.b c.args.a c.args.c p in (
      λ h. opposite_negative _ _ turned (c.sees.ensures.0 h),
      λ h. c.sees.ensures.1 (negated_positive _ _ turned h),
    )
