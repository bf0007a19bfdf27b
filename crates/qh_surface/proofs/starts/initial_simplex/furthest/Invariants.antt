-- The furthest id so far is one of the set.
use Rattle.qh_model.specs.headline.Sets.{Members}
use Rattle.qh_surface.proofs.starts.initial_simplex.furthest.Given as goal

-- the id found is one of the ids
abbrev pub invariant-loop-part : goal.invariant-loop-part
invariant-loop-part l = Members l.ids l.found
