-- The part is tested against each other part in order.
use Rattle.qh_model.proofs.Common.{◌≡◌, ◌<◌, ◌⊎◌, inl, inr, length, get_or, sym, subst, arith, cases_lt, surface_of, place, In}
use Rattle.qh_surface.specs.contract.{NamedMeshes.named, Walks.mark_at}
use Rattle.{qh_parts_join.specs.contract.Parts.own_in, qh_parts_join.specs.declared.parts.Part.Part, qh_parts.specs.steps.Apart.IsApart}
use Rattle.qh_parts.{specs.steps.Witnesses.IsRingOver, proofs.Answers.apart_of, proofs.seam.staying.stays.Goals.then-other-number+in_ok-apart+else-not-apart}
use Rattle.qh_parts.proofs.{seam.staying.stays.Goals.else-other-number, StayingParts.shared_indices, StayingParts.apart_at, StayingParts.staying_part}
use Rattle.qh_parts.proofs.seam.staying.stays.Goals as goal

pub four_of-requires : goal.four_of-requires
four_of-requires c = shared_indices (c.requires.parts c.args.number c.index-set-number.result c.requires.number)

pub is_apart-requires : goal.is_apart-requires
is_apart-requires c = record { live = rw c.deref.ensures.value c.in_ok-ring.ensures.live }

pub loop-other-preserved : goal.loop-other-preserved
loop-other-preserved c = λ j h d e. elim (cases_lt j c.loop-other.other) [
  | inl l ↦ c.loop-other.invariant j l d e
  | inr g ↦ (let same : c.loop-other.other ≡ j = omega (arith, g, h) in
      rw same at (at_other d e))
]
  where
    within : c.loop-other.other < length c.args.set.parts.now
    within = c.loop-other-test.true

    at_other : (d e : Part) → (c.loop-other.other ≡ c.args.number) ⊎ IsApart c.args.set.pts.now
        (get_or c.args.set.parts.now c.args.number d) (mark_at c.args.guess.stay.now) (own_in (get_or c.args.set.parts.now c.loop-other.other e))
    at_other d e =
        let pts = c.args.set.pts.now in let parts = c.args.set.parts.now in
        let stay = mark_at c.args.guess.stay.now in let own = c.index-set-number.result in
        elim c.if-other-number.branch [
          | then-other-number+in_ok-apart+else-not-apart w ↦ (
              let other = w.index-set-other.result in let ids = own_in (get_or parts c.loop-other.other other) in
              let held = (c.requires.parts c.loop-other.other other within).places in
              let ring : IsRingOver (place pts) (surface_of (named (get_or parts c.args.number own).surface)) stay ids =
              λ f r. w.in_ok-apart.ensures.ring w.if-not-apart.false ids held f (subst (In f) (sym w.deref.ensures.value) (c.in_ok-ring.ensures.all f r)) in
              inr (apart_at pts parts stay c.args.number c.loop-other.other own other d e c.requires.number within
              (apart_of pts c.args.set.shared.now c.in-Some.four c.in-Some.ensures (get_or parts c.args.number own)
              (c.requires.parts c.args.number own c.requires.number) stay ids (w.in_ok-apart.ensures.answers w.if-not-apart.false ids held) ring)))
          | else-other-number w ↦ inl (omega (arith, w.if-other-number.false))
        ]

pub returns-clause-part : goal.returns-clause-part
returns-clause-part c = λ _ d.
    staying_part c.args.set.pts.now c.args.set.shared.now c.args.set.parts.now c.args.number d (mark_at c.args.guess.stay.now)
    c.requires.parts c.requires.number (λ j e h. c.loop-other.invariant j (omega (arith, h)) d e)
