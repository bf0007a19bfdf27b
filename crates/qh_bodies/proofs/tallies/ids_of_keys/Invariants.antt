-- The ids of the triangles so far.
use Rattle.std.proofs.Common.{◌≡◌, take, flat_map}
use Rattle.qh_bodies.specs.steps.FaceKeys.{triangle_in}
use Rattle.qh_bodies.proofs.tallies.ids_of_keys.Given as goal

abbrev pub invariant-loop-key : goal.invariant-loop-key
invariant-loop-key l = l.ids.items ≡ flat_map triangle_in (take l.key-index l.keys)
