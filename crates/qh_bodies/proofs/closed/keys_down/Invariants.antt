-- The keys so far of steps down, reversed.
use Rattle.qh_model.proofs.Common.{◌≡◌, filter, map, take, halves}
use Rattle.qh_bodies.specs.steps.StepKeys.{back, goes_down}
use Rattle.qh_bodies.proofs.closed.keys_down.Given as goal

abbrev pub invariant-loop-key : goal.invariant-loop-key
invariant-loop-key l = map halves l.down.items ≡ map back (map halves (filter goes_down (take l.key-index l.keys)))
