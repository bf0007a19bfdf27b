-- The keys so far, reversed.
use Rattle.qh_model.proofs.Common.{◌≡◌, map, take, halves}
use Rattle.qh_bodies.specs.steps.StepKeys.{back}
use Rattle.qh_bodies.proofs.borders.keys_back.Given as goal

abbrev pub invariant-loop-key : goal.invariant-loop-key
invariant-loop-key l = map halves l.back.items ≡ map back (map halves (take l.key-index l.keys))
