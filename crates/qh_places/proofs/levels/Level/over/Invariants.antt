-- The blocks so far are made.
use Rattle.{std.proofs.Common.length, qh_places.specs.steps.Levels.HasBlocks}
use Rattle.qh_places.proofs.levels.Level.over.Given as goal

abbrev pub invariant-loop-rest : goal.invariant-loop-rest
invariant-loop-rest l = HasBlocks l.points l.rest l.size l.blocks.items

abbrev pub decreases-loop-rest : goal.decreases-loop-rest
decreases-loop-rest l = length l.rest
