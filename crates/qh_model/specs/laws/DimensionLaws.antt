-- Laws of the dimension of a set of ids.
use Rattle.std.specs.Prelude.{ℕ, ◌≡◌, ◌↔◌, List}
use Rattle.qh_model.specs.{contract.IdSets.HasDistinctPoints, headline.Vector.Vector, headline.Sets.Members, headline.Dimension.IsDimension}
use Rattle.qh_model.specs.headline.Extreme.{Extreme}

-- a set has at most one dimension
abbrev pub DimensionIsUnique : Type 0
DimensionIsUnique = (at : ℕ → Vector) (ids : List ℕ) (k l : ℕ) → IsDimension at (Members ids) k → IsDimension at (Members ids) l → k ≡ l

-- a set and its extreme ids have the same dimension
abbrev pub DimensionOfExtremes : Type 0
DimensionOfExtremes = (at : ℕ → Vector) (ids : List ℕ) (k : ℕ) → HasDistinctPoints at (Members ids)
    → IsDimension at (Extreme at (Members ids)) k ↔ IsDimension at (Members ids) k
