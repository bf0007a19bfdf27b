-- A point in the plane is found, one below it is skipped.
use Rattle.qh_places.proofs.{FoundIds.look_start, FoundIds.look_on, FoundIds.look_under, FoundIds.look_above, places.Places.look.Goals.then-is_on+in_ok-push}
use Rattle.{qh_places.proofs.places.Places.look.Goals.else-is_on, std.proofs.Common.◌<◌, std.proofs.Common.length, std.proofs.Common.arith}
use Rattle.qh_places.proofs.places.Places.look.Goals as goal

pub loop-position-init : goal.loop-position-init
loop-position-init c = look_start _ _ _ _ _

pub loop-position-preserved : goal.loop-position-preserved
loop-position-preserved c =
    let k = c.loop-position.position in let self = c.args.self.now in
    let here : k < length self.points.items = omega (arith, c.loop-position-test.true, c.requires) in
    let own : k < length self.ids.items = omega (arith, here, self.same) in
    let told = c.loop-position.invariant in
    elim c.if-is_on.branch [
      | then-is_on+in_ok-push w ↦ rw (w.found-is, w.in_ok-push.ensures.items)
          (look_on _ _ _ _ _ _ _ _ _ told here own c.index-point.ensures w.index-then-is_on.ensures (c.is_on.ensures.0 w.if-is_on.true))
      | else-is_on w ↦ rw w.found-is
          (look_under _ _ _ _ _ _ _ _ told here c.index-point.ensures (λ x. (let y = c.sees.ensures.1 x in let n = c.if-sees.false in cc))
          (λ x. (let y = c.is_on.ensures.1 x in let n = w.if-is_on.false in cc)))
    ]

pub returns-then-sees : goal.returns-then-sees
returns-then-sees c =
    let self = c.args.self.now in
    let here : c.loop-position.position < length self.points.items = omega (arith, c.loop-position-test.true, c.requires) in
    let own : c.loop-position.position < length self.ids.items = omega (arith, here, self.same) in
    look_above _ _ _ _ _ _ here own c.index-point.ensures c.index.ensures (c.sees.ensures.0 c.if-sees.true)
