-- Indices that are the distinct ids themselves.
use Rattle.std.specs.Prelude.{ℕ, ◌≡◌, ◌<◌, List, length, slice_index}
use Rattle.qh_model.specs.headline.{Vector.Vector, Predicates.place}

-- the ids are the numbers below count in order
pub record AreAllIndices (ids : List ℕ) (count : ℕ) : Type 0 where
  pub size : length ids ≡ count
  pub each : (k : ℕ) → k < count → slice_index ids k ≡ k

-- the lists have the same points in order
pub record AreSamePoints (pts named : List Vector) : Type 0 where
  pub size : length pts ≡ length named
  pub each : (k : ℕ) → k < length pts → place pts k ≡ place named k
