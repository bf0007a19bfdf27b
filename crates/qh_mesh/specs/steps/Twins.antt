-- Half-edges by their facet and side, and valid twins.
use Rattle.std.specs.Prelude.{◌≡◌, ℕ, List}
use Rattle.qh_model.specs.contract.StoredSurface.{StoredFacet}
use Rattle.qh_mesh.specs.contract.Edges.{edge_end, edge_start, facet_of, twin_of}
use Rattle.qh_mesh.specs.contract.Replacement.{IsLive}

-- the twin of an edge belongs to a live facet, runs in the opposite direction, and has the edge as its twin
pub record HasTwin (fs : List StoredFacet) (e : ℕ) : Type 0 where
  pub live : IsLive fs (facet_of (twin_of fs e))
  pub back : twin_of fs (twin_of fs e) ≡ e
  pub starts : edge_start fs (twin_of fs e) ≡ edge_end fs e
  pub ends : edge_end fs (twin_of fs e) ≡ edge_start fs e

-- each edge of each live facet has a twin
abbrev pub HasTwins : List StoredFacet → Type 0
HasTwins fs = (e : ℕ) → IsLive fs (facet_of e) → HasTwin fs e
