use Rattle.{std.proofs.Common.◌≤◌, qh_polygon.specs.declared.place_keys.TheConstants.ROOM, qh_plane.specs.steps.PlaceKeys.ArePlaceRepeats}
use Rattle.qh_plane.proofs.distinct_points.repeats_of_places.Given as goal

-- the keys before j are decided
abbrev pub invariant-loop-j : goal.invariant-loop-j
invariant-loop-j l = (1 ≤ l.j) × ArePlaceRepeats ROOM l.keys l.j l.repeats.items
