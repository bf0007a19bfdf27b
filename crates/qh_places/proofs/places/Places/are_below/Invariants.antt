-- The points are below the planes so far.
use Rattle.qh_model.proofs.Common.{ℕ, ◌<◌, List, get_or, pos, ◌<ℤ◌, Vector, place, In}
use Rattle.{qh_pred.specs.contract.Planes.PlaneValue, qh_pred.specs.contract.Planes.height, qh_places.specs.contract.Places.ArePlaces}
use Rattle.qh_places.proofs.places.Places.are_below.Given as goal

abbrev pub invariant-loop-plane : goal.invariant-loop-plane
invariant-loop-plane l = (pts : List Vector) (ids : List ℕ) → ArePlaces pts ids l.self → (k : ℕ) → k < l.plane-index
    → (d : PlaneValue) (i : ℕ) → In i ids → height (get_or l.planes k d) (place pts i) <ℤ pos 0
