-- The keys so far of steps up.
use Rattle.std.proofs.Common.{◌≡◌, filter, take}
use Rattle.qh_bodies.specs.steps.StepKeys.{goes_up}
use Rattle.qh_bodies.proofs.closed.keys_up.Given as goal

abbrev pub invariant-loop-key : goal.invariant-loop-key
invariant-loop-key l = l.up.items ≡ filter goes_up (take l.key-index l.keys)
