-- The horizon as it is collected, and the order of its sides.
use Rattle.std.specs.Prelude.{◌≡◌, ℕ, ◌<◌, List, [], ◌∷◌, Bool, nat_eq, length, take, filter, slice_index_or, count_by, flat_map}
use Rattle.qh_model.specs.contract.{StoredSurface.StoredFacet, StoredSurface.facet_at, Surface.Side.first, Surface.Side.second, Surface.Side.third}
use Rattle.qh_mesh.specs.contract.Edges.{edge_end, edge_start, facet_of, twin_of}
use Rattle.qh_mesh.specs.declared.{facets.FacetSide.FacetSide, slots.End.End, slots.Slot.Slot, slots.End.TheVariants.Start, slots.End.TheVariants.Finish}
use Rattle.qh_mesh.specs.steps.Kept.{side_of}

-- facet f and those across its sides are in the mesh
pub record HasSidesInside (fs : List StoredFacet) (f : ℕ) : Type 0 where
  pub facet : f < length fs
  pub ij : facet_of (facet_at fs f).ij < length fs
  pub jk : facet_of (facet_at fs f).jk < length fs
  pub ki : facet_of (facet_at fs f).ki < length fs

-- true if the facet across the side is live
abbrev pub is_open : List StoredFacet → FacetSide → Bool
is_open fs h = (facet_at fs (facet_of h.outer)).live

-- the three sides of a facet
abbrev pub three_sides : StoredFacet → List FacetSide
three_sides t = side_of t first ∷ side_of t second ∷ side_of t third ∷ []

-- the sides of the listed facets across which a live facet lies, in the order of the list
abbrev pub open_sides : List StoredFacet → List ℕ → List FacetSide
open_sides fs vs = filter (is_open fs) (flat_map (λ v. three_sides (facet_at fs v)) vs)

-- the value for a position past the end
abbrev pub no_side : FacetSide
no_side = record { from = 0; to = 0; outer = 0 }

-- the side at a position of the horizon
abbrev pub side_at : List FacetSide → ℕ → FacetSide
side_at hs j = slice_index_or hs j no_side

-- the other end
abbrev pub other : End → End
other Start = Finish
other Finish = Start

-- the corner at an end of a side
abbrev pub corner : End → FacetSide → ℕ
corner Start h = h.from
corner Finish h = h.to

-- at each corner, the number of sides that start equals the number that end
abbrev pub IsBalanced : List FacetSide → Type 0
IsBalanced hs = (end : End) (l : ℕ)
    → count_by (λ h. nat_eq (corner end h) l) hs ≡ count_by (λ h. nat_eq (corner (other end) h) l) hs

-- how many of the first n sides start, or end, at a corner
abbrev pub rank : List FacetSide → End → ℕ → ℕ → ℕ
rank hs end l n = count_by (λ h. nat_eq (corner end h) l) (take n hs)

-- side i starts where side j ends, or ends where it starts, and has the same rank among the sides there
pub record IsMate (hs : List FacetSide) (end : End) (j i : ℕ) : Type 0 where
  pub inside : i < length hs
  pub meets : corner (other end) (side_at hs i) ≡ corner end (side_at hs j)
  pub rank : rank hs (other end) (corner end (side_at hs j)) i ≡ rank hs end (corner end (side_at hs j)) j

-- the entry of the table for a corner
abbrev pub slot_at : List Slot → ℕ → Slot
slot_at ss l = slice_index_or ss l (record { starting = 0; ending = 0 })

-- the side in the table for a corner: the one that starts there, or the one that ends there
abbrev pub noted : List Slot → End → ℕ → ℕ
noted ss Start l = (slot_at ss l).starting
noted ss Finish l = (slot_at ss l).ending

-- each side is in the table at the corners of both ends
abbrev pub AreNoted : List Slot → List FacetSide → Type 0
AreNoted ss hs = (end : End) (j : ℕ) → j < length hs → (corner end (side_at hs j) < length ss)
    × (noted ss end (corner end (side_at hs j)) ≡ j)

-- the entry of an edge
abbrev pub edge_side : List StoredFacet → ℕ → FacetSide
edge_side fs e = record { from = edge_start fs e; to = edge_end fs e; outer = twin_of fs e }
