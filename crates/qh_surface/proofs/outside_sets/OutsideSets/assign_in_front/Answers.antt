-- The first orphan moves to the front of a set.
use Rattle.std.proofs.Common.{length-drop, length-set, arith}
use Rattle.qh_surface.proofs.Steps.{kept_some, answered, put_front}
use Rattle.qh_surface.proofs.outside_sets.OutsideSets.assign_in_front.Goals as goal

pub invariant_of-self : goal.invariant_of-self
invariant_of-self c =
    let n = c.self.inside.links.ok in let w = c.with_front.ensures in
    let place = rw (← c.index-place.ensures) at c.requires.place in
    let p = put_front (kept_some c.self.invariant c.self.view_is c.requires.some) c.index.ensures place c.index-ends.ensures c.with_front.result w.first in
    (_, _, p (λ h. w.only (omega arith)) (λ h. w.last (omega arith)))

pub returns : goal.returns
unfolding invariant_of-self
returns c = rw (← c.index-place.ensures)
    (answered c.self.invariant c.self.view_is (length-set _ _ _) _ _ (invariant_of-self c).2 (rw (← c.index-place.ensures) at c.requires.place)
    (omega (arith, length-drop 1 c.args.self.now.orphans, c.requires.some)))
