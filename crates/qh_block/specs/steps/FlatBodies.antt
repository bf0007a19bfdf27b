-- The hulls of sets in a point, a line or a plane.
use Rattle.std.specs.Prelude.{◌≡◌, ◌↔◌, ℕ, List, [], ◌∷◌}
use Rattle.{std.specs.List.Sorted.IsStrictlyIncreasing, qh_model.specs.headline.Hull.BodyValue, qh_model.specs.headline.Sets.In}

-- a hull of this dimension with one polygon, this number of edges, and the polygon's members as the extreme ids
pub record IsFlatBody (dim : ℕ) (q : List ℕ) (edges : ℕ) (b : BodyValue) : Type 0 where
  pub is : b ≡ record { dim = dim; extremes = b.extremes; polygons = q ∷ []; edges = edges }
  pub rising : IsStrictlyIncreasing b.extremes
  pub members : (i : ℕ) → In i b.extremes ↔ In i q
