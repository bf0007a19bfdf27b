-- The writes of the steps of a replacement: the twins across the horizon, and the facets of the cone.
use Rattle.std.specs.Prelude.{◌≡◌, ◌≢◌, ℕ, ◌<◌, List, length, slice_index}
use Rattle.qh_model.specs.contract.StoredSurface.{StoredFacet, facet_at, no_facet}
use Rattle.qh_model.specs.contract.Surface.Side.{first, second, third}
use Rattle.qh_mesh.specs.{contract.Edges.edge_of, contract.Edges.twin_of, declared.facets.FacetSide.FacetSide}
use Rattle.qh_mesh.specs.{declared.slots.End.TheVariants.Start, declared.slots.End.TheVariants.Finish, steps.Kept.facet_from}
use Rattle.qh_mesh.specs.steps.{Horizons.side_at, Horizons.IsMate, Places.live_count, Writes.Scattered}

-- the facet without the half-edges across its sides
abbrev pub bare : StoredFacet → StoredFacet
bare t = record { i = t.i; j = t.j; k = t.k; ij = 0; jk = 0; ki = 0; live = t.live }

-- the half-edges across the first k sides of the horizon have their twins in the cone, and nothing else changed
pub record Joined (old new : List StoredFacet) (hs : List FacetSide) (made : List ℕ) (k : ℕ) : Type 0 where
  pub len : length new ≡ length old
  pub same : (f : ℕ) → bare (facet_at new f) ≡ bare (facet_at old f)
  pub count : live_count new ≡ live_count old
  pub outer : (j : ℕ) → j < k → twin_of new (side_at hs j).outer ≡ edge_of (slice_index made j) first
  pub others : (e : ℕ) → ((j : ℕ) → j < k → (side_at hs j).outer ≢ e) → twin_of new e ≡ twin_of old e

-- the facet of the cone over a side of the horizon, linked to those over the adjacent sides
pub record IsOver (hs : List FacetSide) (made : List ℕ) (apex j : ℕ) (t : StoredFacet) : Type 0 where
  pub next : ℕ
  pub next_is : IsMate hs Finish j next
  pub before : ℕ
  pub before_is : IsMate hs Start j before
  pub is : t ≡ facet_from (side_at hs j).from (side_at hs j).to apex (side_at hs j).outer (edge_of (slice_index made next) third)
      (edge_of (slice_index made before) second)

-- the first k facets of the cone are written, and nothing else changed
abbrev pub Written : List StoredFacet → List StoredFacet → List FacetSide → List ℕ → ℕ → ℕ → Type 0
Written old new hs made apex k = Scattered no_facet old new (slice_index made) (IsOver hs made apex) k
