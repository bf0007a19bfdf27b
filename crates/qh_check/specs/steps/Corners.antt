-- The corners of polygons, as ids of a set.
use Rattle.{std.specs.Prelude.ℕ, std.specs.Prelude.List, qh_model.specs.headline.Sets.In}

-- each corner of each polygon is one of the ids
abbrev pub HaveCornersIn : List ℕ → List (List ℕ) → Type 0
HaveCornersIn ids qs = (q : List ℕ) → In q qs → (i : ℕ) → In i q → In i ids
