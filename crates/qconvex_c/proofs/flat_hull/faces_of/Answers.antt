-- The corners and the offsets of the faces so far.
use Rattle.std.proofs.{Common.arith, lemmas.Grind.common_steps}
use Rattle.qconvex_c.proofs.flat_hull.faces_of.Goals as goal

pub loop-face-init : goal.loop-face-init
loop-face-init c = grind (arith, common_steps)

pub loop-face-preserved : goal.loop-face-preserved
loop-face-preserved c = grind (arith, common_steps)
