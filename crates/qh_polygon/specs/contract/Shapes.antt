-- The shape of a list of ids: its first ids that are not all in one line, and not all in one plane.
use Rattle.std.specs.Prelude.{◌≡◌, ℕ, ◌<◌, pos, List, length, slice_index}
use Rattle.qh_model.specs.headline.{Vector.Vector, Predicates.vol, Predicates.AreInLine, Predicates.place}
use Rattle.qh_polygon.specs.declared.shape.Shape.{Shape}
use Rattle.qh_polygon.specs.declared.shape.Shape.TheVariants.{Point, Segment, Flat, Solid}

-- the point of k is in line with those of i and j
abbrev pub IsInLine : List Vector → ℕ → ℕ → ℕ → Type 0
IsInLine pts i j k = AreInLine (place pts i) (place pts j) (place pts k)

-- the point of l is in the plane of those of i, j and k
abbrev pub IsInPlane : List Vector → ℕ → ℕ → ℕ → ℕ → Type 0
IsInPlane pts i j k l = vol (place pts i) (place pts j) (place pts k) (place pts l) ≡ pos 0

-- P holds for each id
abbrev pub Each : (ℕ → Type 0) → List ℕ → Type 0
Each P ids = (m : ℕ) → m < length ids → P (slice_index ids m)

-- k is the first of the ids for which P does not hold
pub record IsFirstNot (P : ℕ → Type 0) (ids : List ℕ) (k : ℕ) : Type 0 where
  pub at : ℕ
  pub within : at < length ids
  pub is : slice_index ids at ≡ k
  pub not : ¬ (P k)
  pub before : (m : ℕ) → m < at → P (slice_index ids m)

-- i and j are the first two of the ids
pub record AreFirstTwo (ids : List ℕ) (i j : ℕ) : Type 0 where
  pub two : 1 < length ids
  pub first : slice_index ids 0 ≡ i
  pub second : slice_index ids 1 ≡ j

-- the only id; or the first two with all in line; or the first off their line with all in one plane; or the first off that plane
abbrev pub IsShape : List Vector → List ℕ → Shape → Type 0
IsShape pts ids (Point i) = (length ids ≡ 1) × (slice_index ids 0 ≡ i)
IsShape pts ids (Segment i j) = AreFirstTwo ids i j × Each (IsInLine pts i j) ids
IsShape pts ids (Flat i j k) = AreFirstTwo ids i j × IsFirstNot (IsInLine pts i j) ids k × Each (IsInPlane pts i j k) ids
IsShape pts ids (Solid i j k l) = AreFirstTwo ids i j × IsFirstNot (IsInLine pts i j) ids k × IsFirstNot (IsInPlane pts i j k) ids l

-- the dimension of a shape
abbrev pub dimension_of : Shape → ℕ
dimension_of (Point i) = 0
dimension_of (Segment i j) = 1
dimension_of (Flat i j k) = 2
dimension_of (Solid i j k l) = 3
