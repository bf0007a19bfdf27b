use Rattle.qh_plane.proofs.SortedPoints.{rising_differ, falling_differ}
use Rattle.qh_plane.proofs.sorted_points.are_in_order.Goals as goal

pub returns-then-numbers_rise : goal.returns-then-numbers_rise
returns-then-numbers_rise c = λ t. rising_differ c.args.pts.now (c.numbers_rise.ensures t)

pub returns-else-numbers_rise : goal.returns-else-numbers_rise
returns-else-numbers_rise c = λ t. falling_differ c.args.pts.now (c.numbers_fall.ensures t)
