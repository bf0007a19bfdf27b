-- The positions of a list of points where planes of a bundle have to be tested.
-- This project's own.
use Rattle.std.specs.Prelude.{ℕ, ◌+◌, ◌<◌, ◌≤◌, List, length, ℤ, pos, ◌<ℤ◌, slice_index_or}
use Rattle.qh_model.specs.headline.Vector.{Vector, origin}
use Rattle.qh_pred.specs.contract.Planes.{PlaneValue, height}
use Rattle.qh_places.specs.{contract.Bundles.IsOfBundle, declared.bundles.Bundle.Bundle, declared.places.TheConstants.LEAF, declared.places.Near.Near}

-- the height of the point at a position above a plane
abbrev pub rise_at : List Vector → PlaneValue → ℕ → ℤ
rise_at points plane k = height plane (slice_index_or points k origin)

-- the position is covered by one of the first n starts
abbrev pub IsBegun : List ℕ → ℕ → ℕ → Type 0
IsBegun starts n k =
    (j : ℕ) × (j < n) × (slice_index_or starts j 0 ≤ k) × (k < slice_index_or starts j 0 + LEAF)

-- the positions before one that no start covers are below each plane of the bundle
abbrev pub IsNearUpTo : List Vector → Bundle → List ℕ → ℕ → Type 0
IsNearUpTo points b starts to = (plane : PlaneValue) → IsOfBundle b plane → (k : ℕ) → k < to → k < length points
    → ¬ (IsBegun starts (length starts) k) → rise_at points plane k <ℤ pos 0

-- so are all positions
abbrev pub IsNear : List Vector → Near → Type 0
IsNear points near = IsNearUpTo points near.bundle near.starts.items (length points)
