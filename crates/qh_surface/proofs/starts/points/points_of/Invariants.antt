-- The points of the ids so far.
use Rattle.qh_model.proofs.Common.{◌≡◌, ◌≤◌, length, map, take, vec_len, vec_capacity, place}
use Rattle.qh_surface.proofs.starts.points.points_of.Given as goal

abbrev pub invariant-loop-id : goal.invariant-loop-id
invariant-loop-id l = (l.points.items ≡ map (place l.pts) (take l.id-index l.ids))
    × (vec_len l.points ≡ l.id-index) × (length l.ids ≤ vec_capacity l.points)
