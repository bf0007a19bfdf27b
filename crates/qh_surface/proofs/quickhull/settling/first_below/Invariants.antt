-- The point is above none of the facets so far.
use Rattle.std.proofs.Common.{All, take, pos, ◌≤ℤ◌}
use Rattle.{qh_pred.specs.contract.Planes.height, qh_surface.specs.steps.Planes.plane_at}
use Rattle.qh_surface.proofs.quickhull.settling.first_below.Given as goal

abbrev pub invariant-loop-at : goal.invariant-loop-at
invariant-loop-at l = All (λ f. height (plane_at l.planes f) l.point ≤ℤ pos 0) (take l.at l.made)
