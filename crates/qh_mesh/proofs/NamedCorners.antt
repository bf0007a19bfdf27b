-- A surface remains one if its corners are renamed.
use Rattle.qh_model.proofs.Common.{◌≡◌, ℕ, ◌/◌, refl, List, map, reverse, length-map, named_facet, StoredFacet, facet_at, arith}
use Rattle.qh_model.proofs.{lists.Counts.count-map, surfaces.Stored.in_live}
use Rattle.qh_model.proofs.surfaces.Named.{stored_named, stored_part, start_named, end_named}
use Rattle.qh_mesh.specs.contract.{Edges.edge_end, Edges.edge_start, Edges.side_of_edge, Edges.twin_of, Replacement.IsLive}
use Rattle.qh_mesh.specs.steps.{Kept.is_live, Kept.outer_of, Surfaces.IsSurface, Twins.HasTwins}
use Rattle.qh_mesh.proofs.Pools.{pool_same}

module _ (name : ℕ → ℕ) (fs : List StoredFacet) where
  abbrev named : List StoredFacet
  named = map (named_facet name) fs

  -- a side starts and ends at the names of its ends
  named_start : (e : ℕ) → IsLive fs (e / 3) → edge_start named e ≡ name (edge_start fs e)
  named_start e l = start_named (stored_named name fs) (e / 3) (in_live fs (e / 3) l) (side_of_edge e)

  named_end : (e : ℕ) → IsLive fs (e / 3) → edge_end named e ≡ name (edge_end fs e)
  named_end e l = end_named (stored_named name fs) (e / 3) (in_live fs (e / 3) l) (side_of_edge e)

  twin_stays : (e : ℕ) → twin_of named e ≡ twin_of fs e
  twin_stays e = stored_part name (λ t. outer_of t (side_of_edge e)) fs (e / 3) (λ t. refl)

  live_stays : (f : ℕ) → (facet_at named f).live ≡ (facet_at fs f).live
  live_stays f = stored_part name is_live fs f (λ t. refl)

  named_twins : HasTwins fs → HasTwins named
  named_twins = grind (arith, live_stays, twin_stays, named_start, named_end)

  -- so the surface remains one
  pub named_surface : (free : List ℕ) → IsSurface fs free → IsSurface named free
  named_surface free s = record {
    twins = named_twins s.twins;
    pool = pool_same fs named (reverse free)
        (length-map fs (named_facet name)) live_stays (count-map (named_facet name) is_live fs) s.pool;
    small = rw (length-map fs (named_facet name)) s.small;
  }
