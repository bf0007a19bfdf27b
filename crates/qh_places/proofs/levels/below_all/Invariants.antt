-- No block has decided so far.
use Rattle.qh_places.proofs.levels.below_all.Given as goal

abbrev pub invariant-loop-level : goal.invariant-loop-level
invariant-loop-level l = Unit {0}
