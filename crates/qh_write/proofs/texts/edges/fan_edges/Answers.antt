use Rattle.qh_model.proofs.Common.{subst, ap, ◌∙◌, [], length, dedup_is, drop_all, eqb, fans}
use Rattle.qh_write.proofs.texts.edges.fan_edges.Goals as goal
use Rattle.qh_write.proofs.EdgeKeyLemmas.{adds_none, completes_more, edges_by_keys, fans_left}
use Rattle.qh_write.specs.steps.EdgeKeys.{AddsPairs, Completes, pairs_of}

pub loop-face-init : goal.loop-face-init
loop-face-init c = λ end added. subst (λ old. AddsPairs (pairs_of (fans c.args.faces.now)) old end) c.in_ok-keys.ensures.items added

pub loop-face-preserved : goal.loop-face-preserved
loop-face-preserved c =
    completes_more _ _ _ _ _ _ _ (fans_left c.args.faces.now c.loop-face.face-index c.face-item.result c.loop-face-test.true c.face-item.is)
    c.in_ok-push_fan.ensures c.loop-face.invariant

pub returns : goal.returns
returns c =
    c.len.ensures ∙ c.dedup.new.self.ok.0 ∙ ap length (dedup_is eqb c.sort_unstable.new.self.items c.dedup.new.self.items c.dedup.ensures.filtered)
    ∙ edges_by_keys (fans c.args.faces.now) c.loop-face.keys.items c.sort_unstable.new.self.items
    (subst (λ left. Completes (pairs_of (fans left)) (pairs_of (fans c.args.faces.now)) c.loop-face.keys.items [])
    (drop_all c.loop-face.face-index c.args.faces.now c.loop-face-test.false) c.loop-face.invariant c.loop-face.keys.items (adds_none c.loop-face.keys.items))
    c.sort_unstable.ensures.permutation c.sort_unstable.ensures.sorted
