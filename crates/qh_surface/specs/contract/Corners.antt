-- The range of the corners of a mesh.
use Rattle.std.specs.Prelude.{ℕ, ◌<◌, List}
use Rattle.qh_model.specs.contract.StoredSurface.{StoredFacet, facet_at}
use Rattle.qh_mesh.specs.contract.Replacement.{IsLive}

-- the corners of live facets are among the first n ids
pub record AreCornersBelow (n : ℕ) (fs : List StoredFacet) : Type 0 where
  pub i_in : (f : ℕ) → IsLive fs f → (facet_at fs f).i < n
  pub j_in : (f : ℕ) → IsLive fs f → (facet_at fs f).j < n
  pub k_in : (f : ℕ) → IsLive fs f → (facet_at fs f).k < n
