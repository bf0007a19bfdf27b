-- Writes to several positions of a list.
use Rattle.std.specs.Prelude.{◌≡◌, ◌≢◌, ℕ, ◌<◌, List, length, slice_index_or}

-- the entry at position p j has property Q, for each j below k, and nothing else changed
pub record Scattered {X : Type 0} (d : X) (old new : List X) (p : ℕ → ℕ) (Q : ℕ → X → Type 0) (k : ℕ) : Type 0 where
  pub len : length new ≡ length old
  pub there : (j : ℕ) → j < k → Q j (slice_index_or new (p j) d)
  pub others : (f : ℕ) → ((j : ℕ) → j < k → p j ≢ f) → slice_index_or new f d ≡ slice_index_or old f d
