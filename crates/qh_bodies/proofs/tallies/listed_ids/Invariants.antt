-- The ids of the polygons so far.
use Rattle.std.proofs.Common.{◌≡◌, take}
use Rattle.qh_bodies.specs.contract.Tallies.{all_members}
use Rattle.qh_bodies.proofs.tallies.listed_ids.Given as goal

abbrev pub invariant-loop-polygon : goal.invariant-loop-polygon
invariant-loop-polygon l = l.ids.items ≡ all_members (take l.polygon-index l.polygons)
