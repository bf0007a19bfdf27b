-- Three more components.
use Rattle.std.proofs.{Common.arith, lemmas.Grind.common_steps}
use Rattle.qconvex_c.proofs.fans.push_normal.Goals as goal

pub returns : goal.returns
returns c = grind (arith, common_steps)
