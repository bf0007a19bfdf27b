-- The furthest id so far is one of the ids.
use Rattle.qh_model.specs.headline.Sets.{In}
use Rattle.qh_polygon.proofs.inner_places.furthest.Given as goal

-- the id found is one of the ids
abbrev pub invariant-loop-part : goal.invariant-loop-part
invariant-loop-part l = In l.found l.ids
