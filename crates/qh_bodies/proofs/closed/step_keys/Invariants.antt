-- The steps of the polygons so far.
use Rattle.qh_model.proofs.Common.{◌≡◌, map, take, flat_map, steps_round, halves}
use Rattle.qh_bodies.proofs.closed.step_keys.Given as goal

abbrev pub invariant-loop-polygon : goal.invariant-loop-polygon
invariant-loop-polygon l = map halves l.keys.items ≡ flat_map steps_round (take l.polygon-index l.polygons)
