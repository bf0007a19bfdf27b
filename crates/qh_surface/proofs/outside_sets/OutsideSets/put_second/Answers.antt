-- The first orphan moves behind the first of a set.
use Rattle.std.proofs.Common.{◌∙◌, ap, length, length-drop, drop-cons, length-set, arith, get_or, false}
use Rattle.qh_surface.specs.contract.OutsideSets.{set_of, joined}
use Rattle.qh_surface.proofs.Steps.{kept_some, answered, put_second}
use Rattle.qh_surface.proofs.outside_sets.OutsideSets.put_second.Goals as goal

pub invariant_of-self : goal.invariant_of-self
invariant_of-self c =
    let k = kept_some c.self.invariant c.self.view_is c.requires.some in let w = c.with_second.ensures in
    let place = rw (← c.index-place.ensures) at c.requires.place in let first = rw (← c.index-place.ensures) at c.requires.first in
    (_, _, put_second k c.index.ensures place c.index-ends.ensures _ first _ c.index-2.ensures w.first w.second w.last)

pub returns : goal.returns
unfolding invariant_of-self
returns c =
    let now = c.args.self.now in
    let s = drop-cons (set_of now c.index-place.result) 0 0 (rw (← c.index-place.ensures) at c.requires.first) in
    let l = ap (λ xs. length (joined false (get_or now.orphans 0 0) xs)) s in
    rw (← c.index-place.ensures) (answered c.self.invariant c.self.view_is (length-set _ _ _ ∙ length-set _ _ _) _ _
    (invariant_of-self c).2 (rw (← c.index-place.ensures) at c.requires.place) (omega (arith, ap length s, length-drop 1 now.orphans, c.requires.some)))
