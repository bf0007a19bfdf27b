-- The hull of a set in one line, from its two ends in order.
use Rattle.qh_model.proofs.Common.{rules, ◌∙◌, inl, inr, IfOk-weaker}
use Rattle.qh_block.proofs.{flat_sets.segment_hull.Goals.then-lt, flat_sets.segment_hull.Goals.else-lt, flats.Bodies.segment_is_body}
use Rattle.qh_block.proofs.flat_sets.segment_hull.Goals as goal

pub returns : goal.returns
returns c =
    let j = c.args.j in let e = c.first_along-first.result in let g = c.first_along-last.result in
    let first = c.first_along-first.ensures in let last = c.first_along-last.ensures in let is = c.in_ok-polygon_of.ensures in
    IfOk-weaker c.flat_body.result _ _
    (λ b f s. segment_is_body c.args.set.pts.now c.args.set.ids.now b c.args.i j e g c.in_ok-polygon_of.field-0 c.requires.two c.requires.line first last s
    (elim c.if-lt.branch [ then-lt w ↦ inl (search rules, is ∙ w.ends-is) | else-lt w ↦ inr (search rules, is ∙ w.ends-is) ]) f)
    c.flat_body.ensures
