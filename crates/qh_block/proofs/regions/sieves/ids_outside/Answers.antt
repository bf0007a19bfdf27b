-- An id whose point is in the region is removed.
use Rattle.qh_model.proofs.Common.{◌≡◌, ◌∷◌, ◌++◌, ◌+◌, drop, ap, sym, subst, ◌∙◌, drop_more, append_assoc, append-nil, drop_all, Members}
use Rattle.{qh_model.proofs.Members.In-get_or, qh_block.specs.contract.KeptIds.KeepsExtremes, qh_block.proofs.KeptIds.all_kept}
use Rattle.qh_block.proofs.{KeptIds.held_goes, regions.sieves.ids_outside.Goals.then-not-has+in_ok-push, regions.sieves.ids_outside.Goals.else-not-has}
use Rattle.qh_block.proofs.regions.sieves.ids_outside.Goals as goal

pub loop-id-init : goal.loop-id-init
loop-id-init g c = rw c.in_ok-kept.ensures.items (all_kept c.args.set.pts.now (g.R.Region.held c.args.region.now) c.args.set.ids.now)

pub loop-id-preserved : goal.loop-id-preserved
loop-id-preserved g c =
    let pts = c.args.set.pts.now in let ids = c.args.set.ids.now in let i = c.loop-id.id-index in let x = c.id-item.result in
    let cs = g.R.Region.held c.args.region.now in let rest = drop (i + 1) ids in
    let next : drop i ids ≡ x ∷ rest = drop_more ids i x c.loop-id-test.true ∙ ap (λ n. n ∷ rest) (sym c.id-item.is) in
    let before : KeepsExtremes pts cs ids (c.loop-id.kept.items ++ x ∷ rest) = rw next at c.loop-id.invariant in
    let member : Members ids x = subst (Members ids) (sym c.id-item.is) (In-get_or ids i x c.loop-id-test.true) in
    elim c.if-not-has.branch [
      | then-not-has+in_ok-push w ↦ rw (w.kept-is, w.in_ok-push.ensures.items, append_assoc) before
      | else-not-has w ↦
          rw w.kept-is (held_goes pts cs ids c.loop-id.kept.items rest x member (subst cs c.point_at.ensures (c.has.ensures w.if-not-has.false)) before)
    ]

pub returns : goal.returns
returns g c = rw (drop_all c.loop-id.id-index c.args.set.ids.now c.loop-id-test.false, append-nil) at c.loop-id.invariant
