-- No point so far reaches further.
use Rattle.qh_model.proofs.Common.{ℕ, ◌<◌, length, get_or, ◌≤ℤ◌, origin, dot}
use Rattle.qh_places.specs.steps.Slabs.{vector_of}
use Rattle.qh_places.proofs.slabs.Direction.furthest.Given as goal

abbrev pub invariant-loop-point : goal.invariant-loop-point
invariant-loop-point l = (k : ℕ) → k < l.point-index → k < length l.points
    → dot (vector_of l.self) (get_or l.points k origin) ≤ℤ l.furthest
