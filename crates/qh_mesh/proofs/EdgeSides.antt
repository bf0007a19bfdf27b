-- Half-edges by their facet and side.
use Rattle.std.proofs.Common.{◌≡◌, ℕ, ◌/◌, ◌%◌, ◌<◌, arith, sym, ◌∙◌, refl, subst, List}
use Rattle.qh_model.specs.contract.StoredSurface.{StoredFacet, facet_at, surface_of}
use Rattle.qh_model.specs.contract.Surface.{Side, start, end, Side.first, Side.second, Side.third}
use Rattle.qh_mesh.specs.contract.Edges.{edge_end, edge_of, edge_start, nth_side, side_no, side_of_edge, twin_of}
use Rattle.qh_mesh.specs.{contract.Replacement.IsLive}
use Rattle.qh_mesh.specs.steps.{Horizons.edge_side, Kept.outer_of, Kept.side_of, Twins.HasTwin, Twins.HasTwins}

-- an edge given by its facet and side belongs to that facet
pub edge-facet : (f : ℕ) (s : Side) → edge_of f s / 3 ≡ f
edge-facet f = elim [ first ↦ omega arith | second ↦ omega arith | third ↦ omega arith ]

-- and is that side
pub edge-side : (f : ℕ) (s : Side) → side_of_edge (edge_of f s) ≡ s
edge-side = grind arith

-- the side of an edge is given by the remainder of its number
pub side_left_over : (r : ℕ) → r < 3 → side_no (nth_side r) ≡ r
side_left_over = grind arith

-- each edge is that of its facet and side
pub edge_is : (x : ℕ) → edge_of (x / 3) (side_of_edge x) ≡ x
edge_is x = let e : side_no (side_of_edge x) ≡ x % 3 = side_left_over (x % 3) (omega arith) in omega arith

-- so twins are determined by facet and side
pub twins_by_side : (fs : List StoredFacet) → ((f : ℕ) → IsLive fs f → (s : Side) → HasTwin fs (edge_of f s)) → HasTwins fs
twins_by_side fs h e l = subst (HasTwin fs) (edge_is e) (h (e / 3) l (side_of_edge e))

-- each side of a live facet has a twin
pub twin-at : (fs : List StoredFacet) → HasTwins fs → (f : ℕ) → IsLive fs f → (s : Side) → HasTwin fs (edge_of f s)
twin-at fs t f l s = t (edge_of f s) (subst (IsLive fs) (sym (edge-facet f s)) l)

module _ (fs : List StoredFacet) (f : ℕ) (s : Side) where
  -- an edge starts and ends as in the surface
  pub start-is : edge_start fs (edge_of f s) ≡ start (surface_of fs) f s
  start-is = λ i. start (surface_of fs) (edge-facet f s i) (edge-side f s i)

  pub end-is : edge_end fs (edge_of f s) ≡ end (surface_of fs) f s
  end-is = λ i. end (surface_of fs) (edge-facet f s i) (edge-side f s i)

  -- the twin, given by facet and side
  pub twin-is : twin_of fs (edge_of f s) ≡ outer_of (facet_at fs f) s
  twin-is = λ i. outer_of (facet_at fs (edge-facet f s i)) (edge-side f s i)

module _ (fs : List StoredFacet) (f : ℕ) where
  -- the neighbour is the facet of the twin, and that side of it
  pub over-is : (s : Side) → (surface_of fs).over f s ≡ outer_of (facet_at fs f) s / 3
  over-is = elim [ first ↦ refl | second ↦ refl | third ↦ refl ]

  pub back-is : (s : Side) → (surface_of fs).back f s ≡ side_of_edge (outer_of (facet_at fs f) s)
  back-is = elim [ first ↦ refl | second ↦ refl | third ↦ refl ]

-- the entry of an edge is that side of its facet
pub side-is : (fs : List StoredFacet) (e : ℕ) → edge_side fs e ≡ side_of (facet_at fs (e / 3)) (side_of_edge e)
side-is = grind arith

pub noted-is : (fs : List StoredFacet) (f : ℕ) (s : Side) → edge_side fs (edge_of f s) ≡ side_of (facet_at fs f) s
noted-is fs f s = side-is fs (edge_of f s) ∙ (λ i. side_of (facet_at fs (edge-facet f s i)) (edge-side f s i))
