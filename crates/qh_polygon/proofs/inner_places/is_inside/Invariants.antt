-- The point is to the left of the sides so far; the remaining ones decide.
use Rattle.qh_model.proofs.Common.{◌≡◌, ◌<◌, length, drop, get_or, AreIndices}
use Rattle.qh_polygon.proofs.inner_places.is_inside.Given as goal
use Rattle.qh_polygon.specs.steps.{Chains.turn_of, InnerPlaces.is_left_along, InnerPlaces.is_inside}

-- the remaining sides decide the result
abbrev pub invariant-loop-to : goal.invariant-loop-to
invariant-loop-to l = record {
  from_in : l.from < length l.pts;
  ends_in : AreIndices l.pts l.to-items;
  same : is_left_along (turn_of l.pts l.normal) l.id l.from (drop l.to-index l.to-items) (get_or l.cycle 0 0)
      ≡ is_inside (turn_of l.pts l.normal) l.cycle l.id;
}
