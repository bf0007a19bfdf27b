-- Positions along a line.
use Rattle.std.specs.Prelude.{ℕ, ℤ, ◌≤ℤ◌, List}
use Rattle.qh_model.specs.headline.{Vector.Vector, Vector.minus, Vector.dot, Predicates.place, Sets.In}

-- how far the point of k lies along the vector from the point of i to that of j, times the length of that vector
abbrev pub position : List Vector → ℕ → ℕ → ℕ → ℤ
position pts i j k = dot (minus (place pts j) (place pts i)) (minus (place pts k) (place pts i))

-- e is one of the ids, and no id comes before it along the vector from i to j
pub record IsFirstAlong (pts : List Vector) (ids : List ℕ) (i j e : ℕ) : Type 0 where
  pub member : In e ids
  pub first : (k : ℕ) → In k ids → position pts i j e ≤ℤ position pts i j k
