-- Laws of convex combinations: a point is a convex combination of a set, or is separated from it.
-- Source: Carathéodory's theorem and Farkas' lemma.
use Rattle.std.specs.Prelude.{ℕ, ◌⊎◌, List}
use Rattle.qh_model.specs.{headline.Vector.Vector, headline.Sets.Members, headline.Combination.Combination, laws.Separator.Separator}

-- a point is a convex combination of at most four members of the set, or some direction separates it
abbrev pub CombinationOrSeparator : Type 0
CombinationOrSeparator = (at : ℕ → Vector) (ids : List ℕ) (p : Vector) → Combination at (Members ids) p ⊎ Separator at (Members ids) p

-- a point is never both
abbrev pub NeverBoth : Type 0
NeverBoth = (at : ℕ → Vector) (ids : List ℕ) (p : Vector) → Combination at (Members ids) p → ¬ (Separator at (Members ids) p)
