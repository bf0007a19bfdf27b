-- The parts so far.
use Rattle.{std.proofs.Common.◌≡◌, std.proofs.Common.map, std.proofs.Common.take, qh_parts_join.specs.steps.Bridges.places_in}
use Rattle.qh_parts_join.proofs.join.bridges.nears_of.Given as goal

abbrev pub invariant-loop-places : goal.invariant-loop-places
invariant-loop-places l = map places_in l.nears.items ≡ take l.places-index l.corners
