use Rattle.std.proofs.Common.{◌≡◌, take}
use Rattle.qh_polygon.specs.steps.PlaceKeys.{ids_in}
use Rattle.qh_polygon.proofs.planar.by_place.Given as goal

abbrev pub invariant-loop-key : goal.invariant-loop-key
invariant-loop-key l = l.sorted.items ≡ ids_in (take l.key-index l.ordered)
