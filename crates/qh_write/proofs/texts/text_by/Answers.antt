use Rattle.qh_model.proofs.Common.{ap, ◌∙◌, take_all, flat_map, output_text}
use Rattle.qh_write.proofs.texts.text_by.Goals as goal

pub returns : goal.returns
returns g c =
    c.loop-out.invariant ∙ ap (λ outs. flat_map (output_text c.args.hull.now c.args.pts.now) outs)
    (take_all c.loop-out.out-index c.args.outs.now c.loop-out-test.false)
