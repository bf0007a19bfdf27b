-- The list of ids that is right for a set of blocks of a cut.
-- Source: Preparata and Hong 1977 (the hull of a set from the hulls of its parts).
use Rattle.std.specs.Prelude.{ℕ, ◌+◌, ◌-◌, ◌<◌, List, take, drop}
use Rattle.qh_model.specs.{contract.Cut.bound, contract.Cut.block_count, headline.Vector.Vector, headline.Predicates.place, headline.Sets.In}
use Rattle.qh_model.specs.headline.Hull.{AreExtremes}

-- the ids at the positions of block k
abbrev pub block_ids : List ℕ → List ℕ → ℕ → List ℕ
block_ids ids bounds k = take (bound bounds (k + 1) - bound bounds k) (drop (bound bounds k) ids)

-- i is at a position of one of the blocks in J
abbrev pub IsIdOfBlocks : List ℕ → List ℕ → (ℕ → Type 0) → ℕ → Type 0
IsIdOfBlocks ids bounds J i = (k : ℕ) × (k < block_count bounds) × J k × In i (block_ids ids bounds k)

-- the rising list of the extreme ids of the ids at the positions of the blocks in J
abbrev pub RightValue : List Vector → List ℕ → List ℕ → (ℕ → Type 0) → List ℕ → Type 0
RightValue pts ids bounds J xs = AreExtremes (place pts) (IsIdOfBlocks ids bounds J) xs
