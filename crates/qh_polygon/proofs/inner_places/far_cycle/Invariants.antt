-- The cycle so far consists of ids of the set.
use Rattle.qh_model.proofs.Common.{ℕ, In}
use Rattle.qh_polygon.proofs.inner_places.far_cycle.Given as goal

-- each is one of the ids
abbrev pub invariant-loop-direction : goal.invariant-loop-direction
invariant-loop-direction l = (i : ℕ) → In i l.cycle.items → In i l.ids
