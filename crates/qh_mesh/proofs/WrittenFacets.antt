-- The writes of the loops of a replacement after one more turn.
use Rattle.qh_mesh.proofs.NumberCases.{below_next}
use Rattle.qh_mesh.specs.{contract.Edges.edge_of, contract.Edges.side_of_edge, contract.Edges.twin_of, declared.facets.FacetSide.FacetSide}
use Rattle.qh_mesh.specs.steps.{Cones.Joined, Cones.bare, Horizons.side_at, Kept.with_twin, Writes.Scattered}
use Rattle.qh_model.proofs.Common.{List, StoredFacet, arith, facet_at, first, length, length-set, rules, set, slice_index, sum_by-set}
use Rattle.qh_model.proofs.Common.{ℕ, ◌+◌, ◌/◌, ◌<◌, ◌≡◌, ◌≢◌}

-- one more write, at a new position
pub scattered_more : {X : Type 0} (d : X) (old xs : List X) (p : ℕ → ℕ) (Q : ℕ → X → Type 0) (k : ℕ) (y : X)
    → Scattered d old xs p Q k → p k < length old → ((j : ℕ) → j < k → p j ≢ p k) → Q k y → Scattered d old (set xs (p k) y) p Q (k + 1)
scattered_more = search rules

module _ (fs : List StoredFacet) (e v : ℕ) (l : e / 3 < length fs) where
  -- the facet of the edge, with a new twin of the edge
  abbrev turned : StoredFacet
  turned = with_twin (facet_at fs (e / 3)) (side_of_edge e) v

  abbrev joined : List StoredFacet
  joined = set fs (e / 3) turned

  -- the edge has this twin
  twin_here : twin_of joined e ≡ v
  twin_here = search rules

  -- the twins of other edges are unchanged
  twin_elsewhere : (x : ℕ) → e ≢ x → twin_of joined x ≡ twin_of fs x
  twin_elsewhere = search rules

  -- the facets are otherwise unchanged
  bare_same : (f : ℕ) → bare (facet_at joined f) ≡ bare (facet_at fs f)
  bare_same = search rules

-- one more side of the horizon has its twin in the cone
pub joined_more : (old fs : List StoredFacet) (hs : List FacetSide) (made : List ℕ) (k : ℕ) → let o = (side_at hs k).outer in
    Joined old fs hs made k → o / 3 < length old → ((j : ℕ) → j < k → (side_at hs j).outer ≢ o)
    → Joined old (set fs (o / 3) (with_twin (facet_at fs (o / 3)) (side_of_edge o) (edge_of (slice_index made k) first))) hs made (k + 1)
joined_more = grind (arith, length-set, bare_same, sum_by-set, below_next, twin_elsewhere, twin_here)
