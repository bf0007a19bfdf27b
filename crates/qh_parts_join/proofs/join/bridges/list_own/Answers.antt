-- The ids of one more part in the plane are listed.
use Rattle.qh_model.proofs.Common.{◌<◌, length, map, sym, subst, arith, append-nil, take_all, In}
use Rattle.{qh_model.proofs.Members.All-In, qh_model.proofs.Members.In-get_or, qh_model.proofs.lists.Images.in_map, qh_parts_join.specs.contract.Kept.held_in}
use Rattle.qh_parts_join.{specs.contract.Kept.ArePlaced, specs.steps.Bridges.places_in, proofs.LevelPlanes.level_both, proofs.LevelPlanes.flat_next}
use Rattle.qh_parts_join.proofs.join.bridges.list_own.Goals as goal

pub loop-part-init : goal.loop-part-init
loop-part-init c = λ pts placed ids start. rw (append-nil ids) start

pub loop-part-preserved : goal.loop-part-preserved
loop-part-preserved c = λ pts placed ids start.
    let nears = c.args.nears.now in let k = c.loop-part.part-index in let n = c.part-item.result in
    let within : k < length nears = omega arith in
    let member = subst (λ x. In x nears) (sym c.part-item.is) (In-get_or nears k n within) in
    let own = All-In (ArePlaced pts) (map places_in nears) (places_in n) placed (in_map places_in nears n member) in
    let level = rw c.in_default.is at (c.in_ok-above.ensures pts (held_in (places_in n)) (record { same = λ l. (λ i. i, λ i. i); points = own.points })) in
    rw (flat_next held_in places_in ids nears k n within c.part-item.is, c.in_ok-extend_from_slice.ensures.items, c.deref.ensures.value)
    (level_both pts c.args.plane.now _ _ _ _ (c.loop-part.invariant pts placed ids start) level)

pub returns : goal.returns
returns c = λ _ pts placed ids start.
    rw (take_all c.loop-part.part-index c.args.nears.now c.loop-part-test.false) at (c.loop-part.invariant pts placed ids start)
