use Rattle.std.proofs.Common.{◌<◌, ℕ, get_or}
use Rattle.qh_polygon.specs.contract.Shapes.{IsInLine}
use Rattle.qh_polygon.proofs.ranking.first_off_line.Given as goal

abbrev pub invariant-loop-k : goal.invariant-loop-k
invariant-loop-k l = (m : ℕ) → m < l.k-index → IsInLine l.pts l.i l.j (get_or l.ids m 0)
