-- Laws of cuts: each position lies in one block, and no block is empty.
use Rattle.std.specs.Prelude.{ℕ, ◌≡◌, ◌+◌, ◌≤◌, ◌<◌, List}
use Rattle.qh_model.specs.contract.Cut.{IsCut, block_count, bound, positions}

-- position p lies in block j
pub record IsInBlock (bounds : List ℕ) (j p : ℕ) : Type 0 where
  pub block : j < block_count bounds
  pub from : bound bounds j ≤ p
  pub to : p < bound bounds (j + 1)

-- a position lies in some block
abbrev pub BlocksCover : Type 0
BlocksCover = (bounds : List ℕ) (p : ℕ) → IsCut bounds → p < positions bounds → (j : ℕ) × IsInBlock bounds j p

-- a position lies in only one block
abbrev pub BlocksAreApart : Type 0
BlocksAreApart = (bounds : List ℕ) (i j p : ℕ) → IsCut bounds → IsInBlock bounds i p → IsInBlock bounds j p → i ≡ j

-- a block has positions of the list only
abbrev pub BlocksAreInside : Type 0
BlocksAreInside = (bounds : List ℕ) (j p : ℕ) → IsCut bounds → IsInBlock bounds j p → p < positions bounds

-- each block has a position
abbrev pub BlocksAreNotEmpty : Type 0
BlocksAreNotEmpty = (bounds : List ℕ) (j : ℕ) → IsCut bounds → j < block_count bounds → IsInBlock bounds j (bound bounds j)
