-- The positions of a set become orphans.
use Rattle.std.proofs.Common.{length-append, length-set, arith}
use Rattle.qh_surface.{specs.contract.OutsideSets.set_of, proofs.Steps.kept, proofs.Steps.answered, proofs.Steps.released}
use Rattle.qh_surface.proofs.outside_sets.OutsideSets.release.Goals as goal

pub invariant_of-self : goal.invariant_of-self
invariant_of-self c =
    let place = rw (← c.index-place.ensures) at c.requires in
    let first = rw (← c.index-place.ensures, ← c.number-self-inside.ensures) at c.in-Some.ensures.first in
    (_, _, released (kept c.self.invariant c.self.view_is) place _ c.index.ensures _ _ first _)

pub returns-in-Some : goal.returns-in-Some
unfolding invariant_of-self
returns-in-Some c =
    rw (← c.index-place.ensures) (answered c.self.invariant c.self.view_is (length-set _ _ _) _ _
    (invariant_of-self c).2 (rw (← c.index-place.ensures) at c.requires)
    (omega (arith, length-append (set_of c.args.self.now c.index-place.result) c.args.self.now.orphans)))
