use Rattle.std.proofs.Common.{◌<◌, ℕ, get_or}
use Rattle.qh_polygon.specs.contract.Shapes.{IsInPlane}
use Rattle.qh_polygon.proofs.ranking.first_off_plane.Given as goal

abbrev pub invariant-loop-l : goal.invariant-loop-l
invariant-loop-l l = (m : ℕ) → m < l.l-index → IsInPlane l.pts l.i l.j l.k (get_or l.ids m 0)
