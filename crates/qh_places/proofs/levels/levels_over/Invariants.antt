-- The levels so far.
use Rattle.{std.specs.List.All, qh_places.specs.steps.Levels.IsLevel}
use Rattle.qh_places.proofs.levels.levels_over.Given as goal

abbrev pub invariant-loop-shift : goal.invariant-loop-shift
invariant-loop-shift l = All (IsLevel l.points) l.levels.items
