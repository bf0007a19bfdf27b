-- All points of the pieces before are processed.
use Rattle.{std.proofs.Common.◌≡◌, qh_plane.specs.steps.FirstIds.AreSeen, qh_plane.specs.steps.Pieces.end_of}
use Rattle.qh_plane.proofs.first_ids.distinct_of_pieces.Given as goal

abbrev pub invariant-loop-piece : goal.invariant-loop-piece
invariant-loop-piece l = record { begin : l.begin ≡ end_of l.pts l.size l.piece-index; seen : AreSeen l.pts l.firsts l.begin }
