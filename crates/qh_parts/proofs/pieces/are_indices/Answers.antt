-- One more id is an index.
use Rattle.qh_model.proofs.Common.{◌<◌, below_more, length, subst, arith, ◌∙◌, get_or_default_zero}
use Rattle.{qh_model.proofs.Members.All-of, qh_places.proofs.Listed.each_listed}
use Rattle.qh_parts.proofs.pieces.are_indices.Goals as goal

pub loop-id-preserved : goal.loop-id-preserved
loop-id-preserved c =
    let within : c.loop-id.id-index < length c.args.ids.now = omega arith in
    below_more _ _ c.loop-id.invariant
    (subst (λ l. l < length c.args.pts.now) (c.id-item.is ∙ get_or_default_zero c.args.ids.now c.loop-id.id-index c.id-item.result within) (omega arith))

pub returns : goal.returns
returns c = λ _.
    All-of (λ i. i < length c.args.pts.now) c.args.ids.now
    (each_listed (λ i. i < length c.args.pts.now) c.args.ids.now c.loop-id.id-index (omega arith) c.loop-id.invariant)
