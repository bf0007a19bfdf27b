-- One more plane has no point above it and none in it.
use Rattle.qh_model.proofs.Common.{◌≡◌, ◌<◌, ◌∙◌, inl, inr, length, arith, subst, cases_lt, get_or_default, pos, ◌<ℤ◌, place}
use Rattle.{qh_model.proofs.Members.to_contains, qh_pred.specs.contract.Planes.height, qh_places.proofs.FoundIds.none_found}
use Rattle.qh_places.proofs.places.Places.are_below.Goals as goal

pub loop-plane-preserved : goal.loop-plane-preserved
loop-plane-preserved c = λ pts ids are k h d i m. elim (cases_lt k c.loop-plane.plane-index) [
  | inl l ↦ c.loop-plane.invariant pts ids are k l d i m
  | inr g ↦ (let same : c.loop-plane.plane-index ≡ k = omega (arith, g, h) in
      let within : c.loop-plane.plane-index < length c.args.planes.now = omega (arith, c.loop-plane-test.true) in
      let is = c.plane-item.is ∙ get_or_default c.args.planes.now c.loop-plane.plane-index c.plane-item.result d within in
      let level = rw c.in_default.is at (c.in_ok-above.ensures pts ids are) in
      let none : length c.on_plane.new.found.items ≡ 0 = omega (arith, c.len.ensures, c.if-len-gt0.false) in
      rw same at (subst (λ x. height x (place pts i) <ℤ pos 0) is (none_found pts ids c.plane-item.result _ level none i m)))
]

pub returns : goal.returns
returns c = λ _ pts ids are plane m l i.
    let (k, h, e) = to_contains c.args.planes.now plane m in
    subst (λ x. height x (place pts l) <ℤ pos 0) e (c.loop-plane.invariant pts ids are k (omega (arith, h, c.loop-plane-test.false)) plane l i)
