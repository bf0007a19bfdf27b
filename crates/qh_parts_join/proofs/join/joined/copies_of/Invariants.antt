-- The polygons so far are copied.
use Rattle.std.proofs.Common.{◌≡◌, take}
use Rattle.qh_parts_join.proofs.join.joined.copies_of.Given as goal

abbrev pub invariant-loop-polygon : goal.invariant-loop-polygon
invariant-loop-polygon l = l.copies.items ≡ take l.polygon-index l.polygons
