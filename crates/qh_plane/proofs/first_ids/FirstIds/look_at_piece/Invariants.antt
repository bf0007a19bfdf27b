-- All points before the next first one are processed.
use Rattle.{std.proofs.Common.◌+◌, std.proofs.Common.◌-◌, std.proofs.Common.slice_index_or, qh_plane.specs.steps.FirstIds.AreSeen}
use Rattle.qh_plane.proofs.first_ids.FirstIds.look_at_piece.Given as goal

abbrev pub invariant-loop-first : goal.invariant-loop-first
invariant-loop-first l = AreSeen l.pts l.self (l.begin + slice_index_or l.firsts l.first-index (l.end - l.begin))
