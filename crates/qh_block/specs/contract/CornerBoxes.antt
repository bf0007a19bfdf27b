-- The points of a box between points of a set. This project's own.
use Rattle.std.specs.Prelude.{◌≡◌, ◌⊎◌, ℕ, List, ℤ, Bool, true, false, ◌≤ℤ◌}
use Rattle.qh_model.specs.headline.{Vector.Vector, Predicates.place, Sets.In}
use Rattle.qh_block.specs.{contract.Cells.IsWithin, declared.regions.bounds.Bounds.Bounds}

-- the point of an id of the set
abbrev pub IsPointOf : List Vector → List ℕ → Vector → Type 0
IsPointOf pts ids p = (i : ℕ) × In i ids × (place pts i ≡ p)

-- a number is at or beyond the upper or the lower end of a range
abbrev pub IsBeyond : Bool → ℤ → ℤ → ℤ → Type 0
IsBeyond true low high n = high ≤ℤ n
IsBeyond false low high n = n ≤ℤ low

-- a point in the outward octant of a corner of the box; the corner is named by its end along each axis
abbrev pub IsOutward : Bool → Bool → Bool → Bounds → Vector → Type 0
IsOutward x y z b p = IsBeyond x b.low.x b.high.x p.x × IsBeyond y b.low.y b.high.y p.y × IsBeyond z b.low.z b.high.z p.z

-- the octant of each corner has a point of the set
abbrev pub HasOutward : List Vector → List ℕ → Bounds → Type 0
HasOutward pts ids b = (x y z : Bool) → (p : Vector) × IsPointOf pts ids p × IsOutward x y z b p

-- one end of a range or the other
abbrev pub IsEnd : ℤ → ℤ → ℤ → Type 0
IsEnd low n high = (n ≡ low) ⊎ (n ≡ high)

-- a corner of the box
abbrev pub IsCorner : Bounds → Vector → Type 0
IsCorner b p = IsEnd b.low.x p.x b.high.x × IsEnd b.low.y p.y b.high.y × IsEnd b.low.z p.z b.high.z

-- a point of the box that is not a corner of it
abbrev pub IsHeldBy : Bounds → Vector → Type 0
IsHeldBy b p = IsWithin b p × ¬ (IsCorner b p)
