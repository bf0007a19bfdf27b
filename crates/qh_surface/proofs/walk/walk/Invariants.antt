-- The invariant of a walk.
use Rattle.std.proofs.Common.{slice_index, ◌≡◌, ◌-◌, ◌<◌, ◌≤◌, [], length}
use Rattle.qh_surface.specs.contract.Walks.{IsWalk, AreCrossed, IsFurther}
use Rattle.qh_surface.proofs.walk.walk.Given as goal

abbrev pub invariant-loop-next : goal.invariant-loop-next
invariant-loop-next g l = record {
  walk : IsWalk (g.T.FacetPredicate.Passes l.test l.mesh) l.mesh l.marks l.found.items;
  further : IsFurther l.fn.marks l.marks [] l.found.items;
  some : 0 < length l.found.items;
  start : slice_index l.found.items 0 ≡ l.fn.start;
  crossed : AreCrossed (g.T.FacetPredicate.Passes l.test l.mesh) l.mesh l.marks l.found.items l.next;
  next : l.next ≤ length l.found.items;
}

abbrev pub decreases-loop-next : goal.decreases-loop-next
decreases-loop-next g l = length l.mesh - l.next
