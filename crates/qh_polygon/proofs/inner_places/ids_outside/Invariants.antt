-- The ids so far are kept if their points are outside.
use Rattle.qh_polygon.proofs.inner_places.ids_outside.Given as goal
use Rattle.std.proofs.Common.{◌≡◌, filter, take}
use Rattle.qh_polygon.specs.steps.{Chains.turn_of, InnerPlaces.is_outside}

-- the kept ids are the ids processed so far, filtered
abbrev pub invariant-loop-id : goal.invariant-loop-id
invariant-loop-id l = l.kept.items ≡ filter (is_outside (turn_of l.pts l.normal) l.cycle) (take l.id-index l.ids)
