-- Points in the order of their places, or in reverse. Only private functions cite it.
use Rattle.std.specs.Prelude.{ℕ, ◌≢◌, ◌+◌, ◌<◌, List, length}
use Rattle.{qh_model.specs.headline.Predicates.place, qh_model.specs.headline.Vector.Vector, qh_plane.specs.steps.HashedKeys.place_number}

-- the number of each place is above that of the place before
abbrev pub NumbersRise : List Vector → Type 0
NumbersRise pts = (j : ℕ) → j + 1 < length pts → place_number (place pts j) < place_number (place pts (j + 1))

-- the number of each place is below that of the place before
abbrev pub NumbersFall : List Vector → Type 0
NumbersFall pts = (j : ℕ) → j + 1 < length pts → place_number (place pts (j + 1)) < place_number (place pts j)

-- no two of the points are equal
abbrev pub AllDiffer : List Vector → Type 0
AllDiffer pts = (i j : ℕ) → i < j → j < length pts → place pts i ≢ place pts j
