use Rattle.{std.proofs.Common.◌≤◌, std.proofs.Common.◌-◌, std.proofs.Common.vec_len, std.proofs.Common.vec_capacity, qh_read.specs.steps.Cursors.ArePushed}
use Rattle.qh_read.proofs.cursor.Cursor.push_points.Given as goal

-- the points so far
abbrev pub invariant-loop-cursor : goal.invariant-loop-cursor
invariant-loop-cursor l = record {
  pushed : ArePushed l.fn.points.items l.points.items l.self l.cursor;
  fewer : vec_len l.points ≤ l.limit;
  room : l.limit ≤ vec_capacity l.points;
  kept : vec_capacity l.fn.points ≤ vec_capacity l.points;
}

abbrev pub decreases-loop-cursor : goal.decreases-loop-cursor
decreases-loop-cursor l = l.limit - vec_len l.points
