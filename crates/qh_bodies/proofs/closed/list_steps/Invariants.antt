-- The steps so far, and the remaining sides.
use Rattle.qh_model.proofs.Common.{◌≡◌, ◌++◌, map, halves, steps_round}
use Rattle.qh_bodies.proofs.closed.list_steps.Given as goal

abbrev pub invariant-loop-from : goal.invariant-loop-from
invariant-loop-from l =
    map halves l.keys.items ++ l.from-iterator ≡ map halves l.initial.keys.items ++ steps_round l.polygon
