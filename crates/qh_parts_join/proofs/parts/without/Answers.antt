-- One more id is kept, or is one of the others.
use Rattle.qh_model.proofs.Common.{◌<◌, inl, inr, length, arith, ◌∙◌, ap, ◌⊎◌, get_or_default_zero, In}
use Rattle.qh_places.proofs.Listed.{each_listed}
use Rattle.qh_parts_join.proofs.{LeftIds.one_more, LeftIds.none_left, parts.without.Goals.then-not-has+in_ok-push, parts.without.Goals.else-not-has}
use Rattle.qh_parts_join.proofs.parts.without.Goals as goal

pub loop-id-init : goal.loop-id-init
loop-id-init c = none_left _ c.args.ids.now _ c.new-left.ensures.items

pub loop-id-preserved : goal.loop-id-preserved
loop-id-preserved c =
    let within : c.loop-id.id-index < length c.args.ids.now = omega arith in
    one_more _ c.args.ids.now _ _ _ c.id-item.result c.loop-id.invariant within
    (c.id-item.is ∙ get_or_default_zero c.args.ids.now c.loop-id.id-index c.id-item.result within)
    (elim c.if-not-has.branch [
      | then-not-has+in_ok-push w ↦ inr (ap (λ v. v.items) w.left-is ∙ w.in_ok-push.ensures.items)
      | else-not-has w ↦ inl (c.has.ensures.0 w.if-not-has.false, ap (λ v. v.items) w.left-is)
    ])

pub returns-clause-all : goal.returns-clause-all
returns-clause-all c = λ l i.
    each_listed (λ j. In j c.loop-id.left.items ⊎ In j c.args.others.now) c.args.ids.now c.loop-id.id-index (omega arith)
    c.loop-id.invariant.each l i
