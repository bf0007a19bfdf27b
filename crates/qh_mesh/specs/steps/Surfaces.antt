-- The invariant of a mesh.
use Rattle.std.specs.Prelude.{ℕ, ◌*◌, ◌<◌, ◌^◌, List, length, reverse}
use Rattle.qh_model.specs.contract.StoredSurface.{StoredFacet}
use Rattle.qh_mesh.specs.steps.{Places.IsPool, Twins.HasTwins}

-- a closed surface, a list of its free places, and half-edges whose numbers fit 32 bits
pub record IsSurface (fs : List StoredFacet) (free : List ℕ) : Type 0 where
  pub twins : HasTwins fs
  pub pool : IsPool fs (reverse free)
  pub small : 3 * length fs < 2 ^ 32
