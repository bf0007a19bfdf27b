use Rattle.std.proofs.Common.{◌∙◌, ◌<◌, ◌++◌, ◌∷◌, [], take, ap, sym, subst}
use Rattle.{std.proofs.lemmas.List.take_more, qh_plane.proofs.RepeatedIds.mark_taken}
use Rattle.qh_plane.proofs.distinct_points.marks_without.Goals as goal

pub loop-id-preserved : goal.loop-id-preserved
loop-id-preserved c =
    let count = c.args.count in let ids = c.args.ids.now in let i = c.loop-id.id-index in let x = c.id-item.result in
    let marks = c.loop-id.marks.items in
    let below : x < count = subst (λ v. v < count) (sym c.id-item.is) (c.requires i x c.loop-id-test.true) in
    rw (take_more ids i x c.loop-id-test.true ∙ ap (λ v. take i ids ++ v ∷ []) (sym c.id-item.is))
    (rw c.index.ensures (mark_taken count (take i ids) marks x below c.loop-id.invariant))
