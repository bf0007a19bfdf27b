-- The contents of a call's buffers.
use Rattle.std.specs.Prelude.{ℕ, ◌+◌, ◌<◌, ◌⊎◌, List, length, take}
use Rattle.qh_model.specs.headline.Vector.{Vector}
use Rattle.qconvex_c.specs.{contract.Flat.IsFlatHull, declared.sizes.Sizes.Sizes}

-- the buffers begin with the flat hull of the points, with the lengths in the sizes
pub record IsAnswered (pts : List Vector) (s : Sizes) (extremes offsets corners : List ℕ) : Type 0 where
  pub flat : IsFlatHull pts s (take s.extremes extremes) (take (s.faces + 1) offsets) (take s.corners corners)

-- the sizes are those of the hull of the points, and a buffer is too short for it
pub record NeedsRoom (pts : List Vector) (s : Sizes) (extremes offsets corners : List ℕ) : Type 0 where
  pub all_extremes : List ℕ
  pub all_offsets : List ℕ
  pub all_corners : List ℕ
  pub flat : IsFlatHull pts s all_extremes all_offsets all_corners
  pub short : (length extremes < s.extremes) ⊎ (length offsets < s.faces + 1) ⊎ (length corners < s.corners)
