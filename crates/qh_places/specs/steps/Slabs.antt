-- Blocks of points below a plane across a direction.
use Rattle.std.specs.Prelude.{ℕ, ◌≤◌, ◌<◌, List, length, ℤ, ◌-ℤ◌, ◌*ℤ◌, ◌≤ℤ◌, slice_index_or}
use Rattle.qh_model.specs.headline.Vector.{Vector, origin, dot}
use Rattle.qh_places.specs.{declared.slabs.Direction.Direction, declared.slabs.Block.Block, steps.Boxes.IsWithin}

-- a direction as a vector
abbrev pub vector_of : Direction → Vector
vector_of d = record { x = d.x; y = d.y; z = d.z }

-- n - k m
abbrev pub less_times : Vector → ℤ → Vector → Vector
less_times n k m = record { x = n.x -ℤ k *ℤ m.x; y = n.y -ℤ k *ℤ m.y; z = n.z -ℤ k *ℤ m.z }

-- the point is in the box of the block, and reaches no further along its direction
pub record IsInBlock (b : Block) (p : Vector) : Type 0 where
  pub within : IsWithin b.bounds p
  pub low : dot (vector_of b.along) p ≤ℤ b.reach

-- the points in a range of positions are in the block
abbrev pub IsBlockOf : List Vector → ℕ → ℕ → Block → Type 0
IsBlockOf points from to b = (k : ℕ) → from ≤ k → k < to → k < length points → IsInBlock b (slice_index_or points k origin)
