-- Blocks of consecutive positions of a list of points, and the results of testing blocks and points against a plane.
use Rattle.std.specs.Prelude.{ℕ, ◌≡◌, ◌+◌, ◌-◌, ◌*◌, ◌^◌, ◌<◌, ◌≤◌, List, length, pos, ◌≤ℤ◌, ◌<ℤ◌, slice_index_or}
use Rattle.qh_model.specs.headline.{Vector.Vector, Vector.origin, Sets.In}
use Rattle.qh_pred.specs.contract.Planes.{PlaneValue}
use Rattle.qh_places.specs.{contract.Bundles.IsOfBundle, contract.Near.rise_at, contract.Near.IsBegun, declared.bundles.Bundle.Bundle}
use Rattle.qh_places.specs.{declared.levels.Level.Level, declared.slabs.Block.Block, steps.Slabs.IsBlockOf}

-- each block has the points of its positions
abbrev pub AreBlocks : List Vector → ℕ → List Block → Type 0
AreBlocks points size bs =
    (n : ℕ) (b : Block) → n < length bs → b ≡ slice_index_or bs n b → IsBlockOf points (n * size) (n * size + size) b

abbrev pub IsLevel : List Vector → Level → Type 0
IsLevel points l = AreBlocks points (2 ^ l.shift) l.blocks.items

-- the positions so far have their blocks, and the rest remains
pub record HasBlocks (points rest : List Vector) (size : ℕ) (bs : List Block) : Type 0 where
  pub blocks : AreBlocks points size bs
  pub len : length rest ≡ length points - length bs * size
  pub same : (k : ℕ) → k < length rest → slice_index_or rest k origin ≡ slice_index_or points (length bs * size + k) origin

-- the plane is strictly above the points in a range of positions
abbrev pub AreBelow : List Vector → PlaneValue → ℕ → ℕ → Type 0
AreBelow points plane from to = (k : ℕ) → from ≤ k → k < to → k < length points → rise_at points plane k <ℤ pos 0

-- i is the id at a position whose point is above the plane
abbrev pub IsAboveAt : List Vector → List ℕ → PlaneValue → ℕ → Type 0
IsAboveAt points ids plane i =
    (k : ℕ) × (k < length points) × (slice_index_or ids k 0 ≡ i) × (pos 0 <ℤ rise_at points plane k)

-- each plane of the bundle is strictly above the points in a range of positions
abbrev pub AreBelowAll : List Vector → Bundle → ℕ → ℕ → Type 0
AreBelowAll points b from to = (plane : PlaneValue) → IsOfBundle b plane → AreBelow points plane from to

-- each id found is at a position whose point is in the plane
abbrev pub AreOn : List Vector → List ℕ → PlaneValue → List ℕ → Type 0
AreOn points ids plane found = (i : ℕ) → In i found
    → (k : ℕ) × (k < length points) × (slice_index_or ids k 0 ≡ i) × (rise_at points plane k ≡ pos 0)

-- no point in a range of positions is above the plane, and the ids of those in it were added to the old ones
pub record HasLooked (points : List Vector) (ids : List ℕ) (plane : PlaneValue) (from to : ℕ) (old found : List ℕ) : Type 0 where
  pub below : (k : ℕ) → from ≤ k → k < to → k < length points → rise_at points plane k ≤ℤ pos 0
  pub lists : (k : ℕ) → from ≤ k → k < to → k < length points → rise_at points plane k ≡ pos 0
      → In (slice_index_or ids k 0) found
  pub kept : (i : ℕ) → In i old → In i found
  pub only : AreOn points ids plane old → AreOn points ids plane found

-- the same for the positions that the first n starts cover
pub record HasSeen (points : List Vector) (ids : List ℕ) (plane : PlaneValue) (starts : List ℕ) (n : ℕ) (found : List ℕ) : Type 0 where
  pub below : (k : ℕ) → IsBegun starts n k → k < length points → rise_at points plane k ≤ℤ pos 0
  pub lists : (k : ℕ) → IsBegun starts n k → k < length points → rise_at points plane k ≡ pos 0
      → In (slice_index_or ids k 0) found
  pub only : AreOn points ids plane found
