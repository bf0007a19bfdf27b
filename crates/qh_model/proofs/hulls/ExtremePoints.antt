-- The points of the extreme ids can be read if the points can: there are some, not too many, and they are in range.
use Rattle.qh_model.proofs.Common.{◌≡◌, ℕ, zero, suc, ◌<◌, ◌≤◌, List, [], ◌∷◌, length, get_or, map, arith, refl, inl, inr, length-map, IsPlace, HullValue}
use Rattle.qh_model.proofs.Common.{IsHull, IsCoordinate, coordinates, place, In, Vector, origin, CanBeRead}
use Rattle.std.specs.List.{AllByRecursion as Every}
use Rattle.qh_model.specs.laws.RoundTrip.{extreme_points}
use Rattle.qh_model.proofs.{DistinctIds.distinct_apart, DistinctIds.some_id, DistinctIds.few_below, extremes.ExtremeIds.members_are_combinations}
use Rattle.qh_model.proofs.Members.{In-get_or, in_at}

module _ (pts : List Vector) (h : HullValue) (s : IsHull pts h) where
  -- an extreme id is the index of a point
  extreme_within : (i : ℕ) → In i h.body.extremes → i < length pts
  extreme_within i m = ((s.distinct_ids.members i).0 ((s.body.extremes.members i).0 m).0).0

  -- if there are points, some are extreme
  some_extreme : 1 ≤ length pts → 1 ≤ length h.body.extremes
  some_extreme some =
      let first = In-get_or s.ids 0 0 (some_id pts s.ids s.distinct_ids some) in
      let c = members_are_combinations (place pts) s.ids (distinct_apart pts s.ids s.distinct_ids) (get_or s.ids 0 0) first in
      let r = in_at h.body.extremes c.a ((s.body.extremes.members c.a).1 c.has_a) in omega (arith, r.1)

-- a point of points in range is in range
place_in_range : (pts : List Vector) → Every IsCoordinate (coordinates pts) → (i : ℕ) → i < length pts → IsPlace (get_or pts i origin)
place_in_range [] h i l = absurd (omega arith)
place_in_range (p ∷ ps) h zero l = record { x = h.0; y = h.1.0; z = h.1.1.0 }
place_in_range (p ∷ ps) h (suc i) l = place_in_range ps h.1.1.1 i (omega arith)

-- some points of points in range are in range
places_in_range : (pts : List Vector) → Every IsCoordinate (coordinates pts) → (xs : List ℕ) → ((i : ℕ) → In i xs → i < length pts)
    → Every IsCoordinate (coordinates (map (place pts) xs))
unfolding place
places_in_range pts h [] within = tt
places_in_range pts h (x ∷ xs) within =
    let p = place_in_range pts h x (within x (inl refl)) in
    (p.x, (p.y, (p.z, places_in_range pts h xs (λ i m. within i (inr m)))))

-- the points of the extreme ids can be read
pub extreme_points_can_be_read : (pts : List Vector) (h : HullValue) → IsHull pts h → CanBeRead pts → CanBeRead (extreme_points pts h)
extreme_points_can_be_read pts h s can =
    let count : length (extreme_points pts h) ≡ length h.body.extremes = length-map h.body.extremes (place pts) in
    record {
      some = omega (arith, count, some_extreme pts h s can.some);
      few = omega (arith, count, few_below (length pts) h.body.extremes s.body.extremes.rising (extreme_within pts h s), can.few);
      limit = places_in_range pts can.limit h.body.extremes (extreme_within pts h s);
    }
