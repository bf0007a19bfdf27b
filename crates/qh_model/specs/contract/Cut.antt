-- Cuts of the positions of a list into consecutive blocks.
-- Source: this project's own. Preparata and Hong 1977 divide a set and put the hulls of its parts together.
use Rattle.std.specs.Prelude.{ℕ, ◌≡◌, ◌+◌, ◌*◌, ◌-◌, ◌/◌, ◌%◌, ◌≤◌, ◌<◌, List, length, min, slice_index_or}
use Rattle.qh_model.specs.declared.limits.TheConstants.{BLOCK_LIMIT, POINT_LIMIT}

-- bound j: the first position of block j, which is also the position past the last of the previous block
abbrev pub bound : List ℕ → ℕ → ℕ
bound bounds j = slice_index_or bounds j 0

-- the number of blocks
abbrev pub block_count : List ℕ → ℕ
block_count bounds = length bounds - 1

-- the number of positions that are cut; they begin at 0
abbrev pub positions : List ℕ → ℕ
positions bounds = bound bounds (block_count bounds)

-- each bound is below the next
abbrev pub Rises : List ℕ → Type 0
Rises bounds = (j : ℕ) → j + 1 < length bounds → bound bounds j < bound bounds (j + 1)

-- rising bounds that begin with 0, of at least one position and at most POINT_LIMIT
pub record AreBounds (bounds : List ℕ) : Type 0 where
  pub some : 2 ≤ length bounds
  pub begins : bound bounds 0 ≡ 0
  pub rises : Rises bounds
  pub ends : positions bounds ≤ POINT_LIMIT

-- bounds of at most BLOCK_LIMIT blocks
pub record IsCut (bounds : List ℕ) : Type 0 where
  pub few : block_count bounds ≤ BLOCK_LIMIT
  pub are : AreBounds bounds

-- the number of blocks of a size in m positions
abbrev pub blocks_of : ℕ → ℕ → ℕ
blocks_of m size = m / size + min 1 (m % size)

-- the bounds 0, size, twice size and so on below m, then m
pub record IsEvenCut (m size : ℕ) (bounds : List ℕ) : Type 0 where
  pub count : length bounds ≡ blocks_of m size + 1
  pub each : (j : ℕ) → j < length bounds → bound bounds j ≡ min (j * size) m
