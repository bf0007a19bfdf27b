-- One more id is in the plane or below it.
use Rattle.qh_model.proofs.Common.{◌≡◌, ◌<◌, length, subst, arith, take_all, pos}
use Rattle.qh_pred.specs.contract.Planes.{height}
use Rattle.qh_parts_join.proofs.LevelPlanes.{below_rest, level_on, level_under, one_next}
use Rattle.qh_parts_join.proofs.join.bridges.list_ids.Goals.{then-is_on+in_ok-push, else-is_on}
use Rattle.qh_parts_join.proofs.join.bridges.list_ids.Goals as goal

pub loop-id-preserved : goal.loop-id-preserved
loop-id-preserved c = λ ids start.
    let pts = c.args.pts.now in let others = c.args.others.now in let k = c.loop-id.id-index in
    let within : k < length others = omega arith in
    let so_far = c.loop-id.invariant ids start in let at = c.point_at-point.ensures in
    let next = one_next ids others k c.id-item.result within c.id-item.is in
    elim c.if-is_on.branch [
      | then-is_on+in_ok-push w ↦ rw (next, w.level-is, w.in_ok-push.ensures.items)
          (level_on pts c.args.plane.now _ _ _ so_far (subst (λ p. height c.args.plane.now p ≡ pos 0) at (c.is_on.ensures.0 w.if-is_on.true)))
      | else-is_on w ↦ rw (next, w.level-is)
          (level_under pts c.args.plane.now _ _ _ so_far (rw (at) at (below_rest _ (λ x. (let y = c.sees.ensures.1 x in let n = c.if-sees.false in cc))
          (λ x. (let y = c.is_on.ensures.1 x in let n = w.if-is_on.false in cc)))))
    ]

pub returns : goal.returns
returns c = λ _ ids start.
    rw (take_all c.loop-id.id-index c.args.others.now c.loop-id-test.false) at (c.loop-id.invariant ids start)
