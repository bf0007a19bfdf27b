-- One more point reaches no further.
use Rattle.qh_model.proofs.Common.{arith, subst, ◌∙◌, inl, inr, ◌≡◌, get_or_default, cases_lt, ◌≤ℤ◌, origin, to_z-of_z, w64, SFits}
use Rattle.qh_places.proofs.PointBoxes.{le_trans}
use Rattle.qh_places.proofs.slabs.Direction.furthest.Goals as goal

pub loop-point-preserved : goal.loop-point-preserved
loop-point-preserved c = λ k l m.
    let fr : SFits w64 c.reach.result = record { sfits = c.reach.type_inv } in
    let fm : SFits w64 c.max-furthest.result = record { sfits = c.max-furthest.type_inv } in
    let own = simp to_z-of_z at c.max-furthest.ensures.other_bound in
    simp to_z-of_z (elim (cases_lt k c.loop-point.point-index) [
      | inl x ↦ le_trans _ _ _ (c.loop-point.invariant k x m) c.max-furthest.ensures.self_bound
      | inr x ↦ (let same : c.loop-point.point-index ≡ k = omega (arith, l, x) in
          let here = c.point-item.is ∙ get_or_default c.args.points.now c.loop-point.point-index _ origin c.loop-point-test.true in
          rw same at
          (rw here at (subst (λ r. r ≤ℤ c.max-furthest.result) c.reach.ensures.value own)))
    ])
