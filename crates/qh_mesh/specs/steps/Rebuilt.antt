-- The results of the steps of a replacement, one after the other.
use Rattle.std.specs.Prelude.{All, ◌≡◌, ◌≢◌, ℕ, ◌*◌, ◌<◌, ◌≤◌, ◌^◌, List, ◌++◌, length, reverse, map, max, ◌<ℤ◌}
use Rattle.qh_model.specs.contract.{Weighted.Weighted, ClosedSurface.signed_volume, ClosedSurface.triples_of}
use Rattle.qh_model.specs.contract.{FinishedSurface.weighted_at, FinishedSurface.middle_at, Rewired.IsRewired}
use Rattle.qh_model.specs.{contract.StoredSurface.StoredFacet, contract.StoredSurface.facet_at, contract.StoredSurface.surface_of, headline.Sets.Once}
use Rattle.qh_model.specs.headline.Vector.{Vector}
use Rattle.qh_mesh.specs.contract.{Edges.facet_of, Replacement.horizon, Replacement.IsReplacement}
use Rattle.qh_mesh.specs.{contract.SoundMesh.IsSoundMesh, contract.SoundMesh.IsClosedMesh, contract.SoundMesh.AreVisible, declared.facets.FacetSide.FacetSide}
use Rattle.qh_mesh.specs.steps.{Cones.Joined, Cones.Written, Horizons.edge_side, Horizons.side_at, Horizons.IsBalanced, Places.IsPool, Places.Removed}
use Rattle.qh_mesh.specs.steps.Surfaces.{IsSurface}

-- the listed facets are removed, and their horizon is recorded
pub record IsCleared (old cleared : List StoredFacet) (vs : List ℕ) (hs : List FacetSide) : Type 0 where
  pub removed : Removed old cleared vs (length vs)
  pub noted : hs ≡ map (edge_side old) (horizon old vs)

-- the places of the cone are chosen, and no facet is changed
pub record IsChosen (cleared chosen : List StoredFacet) (hs : List FacetSide) (made free : List ℕ) : Type 0 where
  pub cells : (f : ℕ) → facet_at chosen f ≡ facet_at cleared f
  pub pool : IsPool chosen (made ++ reverse free)
  pub len : length made ≡ length hs
  pub small : 3 * length chosen < 2 ^ 32

-- both, one after the other, with no more places than the cone needs
pub record IsPrepared (old chosen : List StoredFacet) (left vs : List ℕ) (hs : List FacetSide) (made : List ℕ) : Type 0 where
  pub between : List StoredFacet
  pub is_cleared : IsCleared old between vs hs
  pub is_chosen : IsChosen between chosen hs made left
  pub longer : length old ≤ length chosen
  pub again : 0 < length left → length chosen ≡ length old

-- the cone is linked to the facets across the horizon, and written
pub record IsConed (chosen new : List StoredFacet) (hs : List FacetSide) (made : List ℕ) (apex : ℕ) : Type 0 where
  pub joined_to : List StoredFacet
  pub joined : Joined chosen joined_to hs made (length hs)
  pub written : Written joined_to new hs made apex (length made)
  pub pool : (places : List ℕ) → IsPool chosen (made ++ places) → IsPool new places

-- the precondition of the last steps: a balanced horizon, facets across it, and places for the cone
pub record IsReady (chosen : List StoredFacet) (hs : List FacetSide) (made : List ℕ) : Type 0 where
  pub places : length made ≤ length chosen
  pub small : 3 * length chosen < 2 ^ 32
  pub balanced : IsBalanced hs
  pub len : length made ≡ length hs
  pub outers_in : (j : ℕ) → j < length hs → facet_of (side_at hs j).outer < length chosen
  pub outers_apart : (i j : ℕ) → i < j → j < length hs → (side_at hs i).outer ≢ (side_at hs j).outer
  pub made_in : All (λ f. f < length chosen) made
  pub once : Once made

-- a replacement whose result is a surface, with no more places than it needs
pub record IsRebuilt (old new : List StoredFacet) (left vs : List ℕ) (apex : ℕ) (made : List ℕ) : Type 0 where
  pub surface : IsSurface new left
  pub replaced : IsReplacement old new vs apex made
  pub places : length new ≡ max (length old) (length (surface_of new).live)
  pub rewired : (at : ℕ → Vector) (o : Weighted) → IsSoundMesh at old o → AreVisible at old vs apex
      → IsRewired (surface_of old) (surface_of new) (weighted_at at) apex
  pub sound : (at : ℕ → Vector) (o : Weighted) → IsSoundMesh at old o → AreVisible at old vs apex → IsSoundMesh at new o
  pub closed : (at : ℕ → Vector) (s t u v : ℕ) → IsSoundMesh at old (middle_at at s t u v) → AreVisible at old vs apex → IsClosedMesh at new
  pub falls : (at : ℕ → Vector) (s t u v : ℕ) → IsSoundMesh at old (middle_at at s t u v) → AreVisible at old vs apex → (p : Vector)
      → signed_volume at (triples_of (surface_of new)) p <ℤ signed_volume at (triples_of (surface_of old)) p
