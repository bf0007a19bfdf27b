-- The points of the ids so far.
use Rattle.qh_model.proofs.Common.{◌≡◌, map, take, place}
use Rattle.qh_places.proofs.places.points_of.Given as goal

abbrev pub invariant-loop-id : goal.invariant-loop-id
invariant-loop-id l = l.points.items ≡ map (place l.pts) (take l.id-index l.ids)
