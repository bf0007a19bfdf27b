use Rattle.{std.proofs.Common.◌≤◌, qh_plane.specs.steps.HashedKeys.RepeatsTold}
use Rattle.qh_plane.proofs.repeats.repeats_told.Given as goal

-- the keys before j are decided
abbrev pub invariant-loop-j : goal.invariant-loop-j
invariant-loop-j l = (1 ≤ l.j) × RepeatsTold l.pts l.keys l.j l.repeats.items
