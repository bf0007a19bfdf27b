-- The polygons so far are the same.
use Rattle.std.proofs.Common.{◌≡◌, take}
use Rattle.qh_check.proofs.claims.are_same_polygons.Given as goal

abbrev pub invariant-loop-position : goal.invariant-loop-position
invariant-loop-position l = take l.position l.polygons ≡ take l.position l.others
