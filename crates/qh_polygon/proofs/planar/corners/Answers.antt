-- The cycle of the two chains goes round the extremes, and is rotated to its least id.
use Rattle.qh_model.proofs.Common.{◌<◌, ◌≤◌, ℕ, length, get_or, sym, subst, place, Members}
use Rattle.qh_polygon.proofs.planar.corners.Goals as goal
use Rattle.qh_polygon.proofs.polygons.{GoesRound.GoesRound, LeastFirst.polygon_of, SortedPlaces.round_sorted}

pub returns : goal.returns
returns c = λ h.
    polygon_of c.args.normal.now (place c.args.pts.now) (Members c.args.ids.now) c.in_ok-corners.corners.items
    c.least_position-least.result c.rotate_left.new.self.items
    (subst (GoesRound c.args.normal.now (place c.args.pts.now) (Members c.args.ids.now)) (sym c.in_ok-corners.ensures)
    (round_sorted c.args.pts.now c.args.ids.now c.in_ok-sorted.sorted.items c.args.normal.now
    c.in_ok-sorted.ensures.order c.in_ok-sorted.ensures.known h.set.rising h.set.distinct h.two (record { even = h.even; some = h.some })))
    (subst (λ v. 0 < length v → c.least_position-least.result < length v) c.deref.ensures.value c.least_position-least.ensures.proper)
    (subst (λ v. (j : ℕ) → j < length v → get_or v c.least_position-least.result 0 ≤ get_or v j 0)
    c.deref.ensures.value c.least_position-least.ensures.least)
    c.rotate_left.ensures.items
