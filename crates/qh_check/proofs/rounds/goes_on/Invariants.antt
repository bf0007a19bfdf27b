-- The tested members are met from the position of their first.
use Rattle.std.proofs.Common.{◌+◌, ◌-◌, ◌≤◌, drop, length}
use Rattle.qh_check.specs.{contract.Pieces.IsMetAlong, steps.Rounds.way_behind}
use Rattle.qh_check.proofs.rounds.goes_on.Given as goal

abbrev pub invariant-loop-index : goal.invariant-loop-index
invariant-loop-index l = (l.before + 1 ≤ length l.face)
    × IsMetAlong (drop (length l.rest - l.index) l.rest) (drop l.before (way_behind l.face l.begin))
