-- One more id is in the list.
use Rattle.qh_model.proofs.Common.{◌<◌, below_more, length, arith, ◌∙◌, get_or_default_zero, In}
use Rattle.qh_places.proofs.Listed.{each_listed}
use Rattle.qh_parts_join.proofs.parts.are_in.Goals as goal

pub loop-id-preserved : goal.loop-id-preserved
loop-id-preserved c =
    let within : c.loop-id.id-index < length c.args.some.now = omega arith in
    below_more _ _ c.loop-id.invariant
    (rw (c.id-item.is ∙ get_or_default_zero c.args.some.now c.loop-id.id-index c.id-item.result within) at (c.has.ensures.0 c.if-not-has.false))

pub returns : goal.returns
returns c = λ _ l i. each_listed (λ l. In l c.args.ids.now) c.args.some.now c.loop-id.id-index (omega arith) c.loop-id.invariant l i
