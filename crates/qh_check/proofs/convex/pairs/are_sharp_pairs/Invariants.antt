-- The pairs so far are sharp.
use Rattle.qh_model.proofs.Common.{ℕ, ◌<◌, slice_index, place}
use Rattle.qh_check.specs.steps.StepKeys.{step_in, IsSharpPair}
use Rattle.qh_check.proofs.convex.pairs.are_sharp_pairs.Given as goal

abbrev pub invariant-loop-k : goal.invariant-loop-k
invariant-loop-k l = (k : ℕ) → k < l.k → IsSharpPair (place l.pts) (step_in (slice_index l.up k)) (step_in (slice_index l.down k))
