-- Extreme points: the corners of the convex hull.
-- Source: Barber, Dobkin and Huhdanpaa 1996; Carathéodory's theorem.
use Rattle.std.specs.Prelude.{◌≢◌, ℕ}
use Rattle.qh_model.specs.headline.{Vector.Vector, Combination.Combination}

-- the members of A other than i
abbrev pub Others : (ℕ → Type 0) → ℕ → ℕ → Type 0
Others A i j = A j × (j ≢ i)

-- a member of A whose point is no convex combination of the points of the others
abbrev pub Extreme : (ℕ → Vector) → (ℕ → Type 0) → ℕ → Type 0
Extreme at A i = A i × ¬ (Combination at (Others A i) (at i))
