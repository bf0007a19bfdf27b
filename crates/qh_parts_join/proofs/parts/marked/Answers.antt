-- One more id is found, or has no mark.
use Rattle.qh_model.proofs.Common.{◌≡◌, ◌<◌, ◌⊎◌, inl, inr, length, arith, ◌∙◌, ap, true, both_ways, get_or_default_zero, In}
use Rattle.{qh_surface.specs.contract.Walks.mark_at, qh_places.proofs.Listed.each_listed}
use Rattle.qh_parts_join.proofs.{LeftIds.one_more, LeftIds.none_left, parts.marked.Goals.then-is_marked+in_ok-push, parts.marked.Goals.else-is_marked}
use Rattle.qh_parts_join.proofs.parts.marked.Goals as goal

pub loop-id-init : goal.loop-id-init
loop-id-init c = none_left _ c.args.ids.now _ c.new-found.ensures.items

pub loop-id-preserved : goal.loop-id-preserved
loop-id-preserved c =
    let within : c.loop-id.id-index < length c.args.ids.now = omega arith in
    one_more _ c.args.ids.now _ _ _ c.id-item.result c.loop-id.invariant within
    (c.id-item.is ∙ get_or_default_zero c.args.ids.now c.loop-id.id-index c.id-item.result within)
    (elim c.if-is_marked.branch [
      | then-is_marked+in_ok-push w ↦ inr (ap (λ v. v.items) w.found-is ∙ w.in_ok-push.ensures.items)
      | else-is_marked w ↦ inl (λ p. both_ways _ w.if-is_marked.false (c.is_marked.ensures p), ap (λ v. v.items) w.found-is)
    ])

pub returns-clause-all : goal.returns-clause-all
returns-clause-all c = λ l i m.
    elim (each_listed (λ j. In j c.loop-id.found.items ⊎ (¬ (mark_at c.args.marks.now j ≡ true))) c.args.ids.now
    c.loop-id.id-index (omega arith) c.loop-id.invariant.each l i) [ inl found ↦ found | inr never ↦ absurd (never m) ]
