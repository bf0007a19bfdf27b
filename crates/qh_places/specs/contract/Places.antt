-- The ids of a set in some order with their points, and the ids that a plane finds among them.
use Rattle.std.specs.Prelude.{ℕ, ◌≡◌, ◌↔◌, List, map, pos, ◌≤ℤ◌, ◌<ℤ◌}
use Rattle.qh_model.specs.headline.{Vector.Vector, Predicates.place, Sets.In}
use Rattle.qh_pred.specs.contract.Planes.{PlaneValue, height}
use Rattle.qh_places.specs.declared.places.Places.{Places}

-- the places have exactly these ids, with their points
pub record ArePlaces (pts : List Vector) (ids : List ℕ) (p : Places) : Type 0 where
  pub same : (l : ℕ) → In l p.ids.items ↔ In l ids
  pub points : p.points.items ≡ map (place pts) p.ids.items

-- the id is one of the set, and its point is above the plane
abbrev pub IsAbove : List Vector → List ℕ → PlaneValue → ℕ → Type 0
IsAbove pts ids plane l = In l ids × (pos 0 <ℤ height plane (place pts l))

-- no id of the set is above the plane, and those in it are found
pub record AreLevel (pts : List Vector) (ids : List ℕ) (plane : PlaneValue) (found : List ℕ) : Type 0 where
  pub below : (l : ℕ) → In l ids → height plane (place pts l) ≤ℤ pos 0
  pub members : (l : ℕ) → In l found ↔ (In l ids × (height plane (place pts l) ≡ pos 0))
