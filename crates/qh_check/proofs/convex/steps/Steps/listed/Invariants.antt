-- The steps round the triangles so far.
use Rattle.qh_model.proofs.Common.{◌≡◌, filter, map, take, flat_map}
use Rattle.qh_check.specs.steps.StepKeys.{step_in, turns, goes_up, goes_down, back}
use Rattle.qh_check.proofs.convex.steps.Steps.listed.Given as goal

abbrev pub invariant-loop-triangle : goal.invariant-loop-triangle
invariant-loop-triangle l =
    (map step_in l.steps.up.items ≡ filter goes_up (flat_map turns (take l.triangle-index l.triangles)))
    × (map step_in l.steps.down.items ≡ map back (filter goes_down (flat_map turns (take l.triangle-index l.triangles))))
