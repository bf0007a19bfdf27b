-- One more point is settled.
use Rattle.qh_model.proofs.Common.{◌≡◌, ◌<◌, ◌∙◌, inl, inr, length, arith, ap, sym, cases_lt, get_or_default}
use Rattle.{qh_model.proofs.Members.to_contains, qh_parts.proofs.Answers.answered, qh_surface.specs.contract.Walks.mark_at}
use Rattle.qh_parts.proofs.seam.witnesses.is_witness.Goals as goal

pub loop-point-preserved : goal.loop-point-preserved
loop-point-preserved c = λ k h d. elim (cases_lt k c.loop-point.point-index) [
  | inl l ↦ c.loop-point.invariant k l d
  | inr g ↦ (let part = c.args.part in
      let same : c.loop-point.point-index ≡ k = omega (arith, g, h) in
      let within : c.loop-point.point-index < length c.args.points.now = omega arith in
      let item = c.point-item.is ∙ get_or_default c.args.points.now c.loop-point.point-index c.point-item.result d within in
      let corners = c.triangle-triangle.ensures in
      rw same at
      (rw item at (answered part.pts.now part.surface.now part.stay.now c.args.four.now c.args.f (sym c.is_live.ensures ∙ c.if-not-is_live.false) _
      (ap (mark_at part.stay.now) c.index-2.ensures) _ _ _ _ corners.a corners.b corners.c (c.settles.ensures c.if-not-settles.false))))
]

pub returns : goal.returns
returns c = λ _ p i.
    let part = c.args.part in let (k, h, e) = to_contains c.args.points.now p i in
    rw e at (c.loop-point.invariant k (omega (arith, h, c.loop-point-test.false)) p)
