use Rattle.std.proofs.Common.{◌≡◌, take}
use Rattle.qconvex_c.proofs.cut_faces.polygon_of.Given as goal

abbrev pub invariant-loop-corner : goal.invariant-loop-corner
invariant-loop-corner l = l.ids.items ≡ take l.corner-index l.corners
