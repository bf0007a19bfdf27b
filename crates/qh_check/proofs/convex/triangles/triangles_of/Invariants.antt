-- The polygons so far are the triangles.
use Rattle.std.proofs.Common.{◌≡◌, All, length, map, take}
use Rattle.qh_check.specs.steps.Triangles.{IsBelow, corners}
use Rattle.qh_check.proofs.convex.triangles.triangles_of.Given as goal

abbrev pub invariant-loop-polygon : goal.invariant-loop-polygon
invariant-loop-polygon l = (take l.polygon-index l.polygons ≡ map corners l.triangles.items) × All (IsBelow (length l.pts)) l.triangles.items
