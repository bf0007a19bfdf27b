use Rattle.{std.proofs.lemmas.Bool.false≢true, qh_plane.proofs.repeats.repeats_told.Goals.then-is_repeat+in_ok-push}
use Rattle.qh_plane.proofs.repeats.repeats_told.Goals.{else-is_repeat+else-j-ge2, else-j-ge2-via-then-j-ge2+else-hash_in, else-j-ge2-via-else-j-ge2}
use Rattle.qh_plane.proofs.RepeatedIds.{none_told, repeat_told, new_told, told_all}
use Rattle.std.proofs.Common.{◌∙◌, ℕ, ◌+◌, ◌++◌, ◌∷◌, [], true, false, arith, ap, sym, Vec, Global}
use Rattle.qh_plane.proofs.repeats.repeats_told.Goals as goal

pub loop-j-init : goal.loop-j-init
loop-j-init c = (omega arith, rw c.new-repeats.ensures.items (none_told c.args.pts.now c.args.keys.now))

pub loop-j-preserved : goal.loop-j-preserved
loop-j-preserved c =
    let pts = c.args.pts.now in let keys = c.args.keys.now in let j = c.loop-j.j in let ids = c.loop-j.repeats.items in
    let some = c.loop-j.invariant.0 in let told = c.loop-j.invariant.1 in (
      omega arith,
      elim c.if-is_repeat.branch [
        | then-is_repeat+in_ok-push w ↦
            rw (ap (λ (v : Vec ℕ Global). v.items) w.repeats-is ∙ w.in_ok-push.ensures.items ∙ ap (λ i. ids ++ i ∷ []) w.id_in.ensures)
            (repeat_told pts keys j ids some told c.loop-j-test.true (c.is_repeat.ensures.0 w.if-is_repeat.true))
        | else-is_repeat+else-j-ge2 w ↦
            rw (ap (λ (v : Vec ℕ Global). v.items) w.repeats-is)
            (new_told pts keys j ids some told (λ r. false≢true (sym w.if-is_repeat.false ∙ c.is_repeat.ensures.1 r)) (λ two e.
            elim w.else-j-ge2.branch [
              | else-j-ge2-via-then-j-ge2+else-hash_in w' ↦ absurd (w'.if-hash_in.false (w'.hash_in.ensures ∙ e ∙ sym w'.hash_in-then-j-ge2.ensures))
              | else-j-ge2-via-else-j-ge2 w' ↦ absurd (omega (arith, two, w'.if-j-ge2.false))
            ]))
      ],
    )

pub returns : goal.returns
returns c = told_all c.args.pts.now c.args.keys.now c.loop-j.j c.loop-j.repeats.items c.loop-j-test.false c.loop-j.invariant.1
