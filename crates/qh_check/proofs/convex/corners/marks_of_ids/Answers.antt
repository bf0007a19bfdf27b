-- The current id is marked too.
use Rattle.qh_model.proofs.Common.{◌≡◌, ◌∙◌, ◌⊎◌, ℕ, ◌+◌, get_or, inl, inr, subst, sym, take, length-set, In}
use Rattle.qh_check.{specs.steps.CornerMarks.IsMarked, proofs.Marks.marked_more, proofs.Prefixes.in_more, proofs.Prefixes.last_more}
use Rattle.qh_check.proofs.convex.corners.marks_of_ids.Goals as goal

pub loop-id-preserved : goal.loop-id-preserved
loop-id-preserved c = (simp length-set c.loop-id.invariant.0, λ k m. listed k (marked_more c.loop-id.marks.items c.index.result k m))
  where
    at_hand : c.index.result ≡ get_or c.args.ids.now c.loop-id.id-index c.id-item.result
    at_hand = c.index.ensures ∙ c.id-item.is

    listed : (k : ℕ) → IsMarked c.loop-id.marks.items k ⊎ (k ≡ c.index.result) → In k (take (c.loop-id.id-index + 1) c.args.ids.now)
    listed k (inl h) = in_more c.args.ids.now c.loop-id.id-index 0 k c.loop-id-test.true (c.loop-id.invariant.1 k h)
    listed k (inr e) = subst (λ x. In x (take (c.loop-id.id-index + 1) c.args.ids.now)) (sym (e ∙ at_hand))
        (last_more c.args.ids.now c.loop-id.id-index c.id-item.result c.loop-id-test.true)
