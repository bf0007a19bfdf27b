-- Large cones: their facets as wedges in a ring round the apex, and the results of a search through the ring.
-- Source: Barber, Dobkin and Huhdanpaa 1996 (the cone of new facets over the horizon).
use Rattle.qh_mesh.specs.contract.{Edges.edge_of, Edges.facet_of, Edges.twin_of, Replacement.IsLive, SoundMesh.facet_vol}
use Rattle.qh_model.specs.contract.{StoredSurface.StoredFacet, StoredSurface.facet_at, Surface.Side.second}
use Rattle.qh_model.specs.headline.{Predicates.vol, Predicates.place, Sets.In, Vector.Vector, Vector.origin}
use Rattle.{qh_pred.specs.contract.Planes.PlaneValue, qh_pred.specs.contract.Planes.height, qh_surface.specs.declared.quickhull.cone_ring.Wedge.Wedge}
use Rattle.qh_surface.specs.declared.quickhull.cone_search.Visibility.{Visibility, TheVariants.Seen, TheVariants.Unseen, TheVariants.Unknown}
use Rattle.qh_surface.specs.steps.Planes.{plane_at}
use Rattle.std.specs.Prelude.{All, slice_index, ◌≡◌, ℕ, ◌<◌, List, length, slice_index_or, pos, ◌≤ℤ◌, ◌<ℤ◌}

-- the facets share their third corner, and for each facet the list has the neighbour across its second side
pub record IsFan (fs : List StoredFacet) (made : List ℕ) : Type 0 where
  pub apex : ℕ
  pub turned : All (λ f. (facet_at fs f).k ≡ apex) made
  pub closed : (f : ℕ) → In f made → In (facet_of (twin_of fs (edge_of f second))) made

-- the point of the third corner that facets share
abbrev pub apex_of : List Vector → List StoredFacet → List ℕ → Vector
apex_of pts fs made = place pts (facet_at fs (slice_index made 0)).k

-- no corner of a facet is above a facet
abbrev pub HasNoCornerAbove : List Vector → List StoredFacet → Type 0
HasNoCornerAbove pts fs = (f g : ℕ) → IsLive fs f → IsLive fs g
    → (facet_vol (place pts) fs f (place pts (facet_at fs g).i) ≤ℤ pos 0)
    × (facet_vol (place pts) fs f (place pts (facet_at fs g).j) ≤ℤ pos 0)

-- a wedge past the end
abbrev pub no_wedge : Wedge
no_wedge = record { facet = 0; plane = record { normal = origin; offset = pos 0 }; from = origin; to = origin }

-- the wedge at a place of a ring
abbrev pub wedge_at : List Wedge → ℕ → Wedge
wedge_at ws i = slice_index_or ws i no_wedge

-- the plane is that of a triangle at the apex a, and no ray of the wedge is above it
pub record IsConePlane (a : Vector) (w : Wedge) (plane : PlaneValue) : Type 0 where
  pub b : Vector
  pub c : Vector
  pub triangle : (q : Vector) → height plane q ≡ vol a b c q
  pub from_below : height plane w.from ≤ℤ pos 0
  pub to_below : height plane w.to ≤ℤ pos 0

-- the wedge is that of a new facet, a triangle at the apex a, and has no ray above a new facet
pub record IsWedge (ps : List PlaneValue) (made : List ℕ) (a : Vector) (w : Wedge) : Type 0 where
  pub named : In w.facet made
  pub plane : w.plane ≡ plane_at ps w.facet
  pub triangle : (q : Vector) → height w.plane q ≡ vol a w.from w.to q
  pub below : All (λ f. IsConePlane a w (plane_at ps f)) made

-- each wedge of the ring is the wedge of a new facet
abbrev pub AreWedges : List PlaneValue → List ℕ → Vector → List Wedge → Type 0
AreWedges ps made a ws = (i : ℕ) → i < length ws → IsWedge ps made a (wedge_at ws i)

-- each wedge of a ring is a triangle at the apex a
abbrev pub AreTriangles : Vector → List Wedge → Type 0
AreTriangles a ws = (i : ℕ) → i < length ws
    → (q : Vector) → height (wedge_at ws i).plane q ≡ vol a (wedge_at ws i).from (wedge_at ws i).to q

-- the facet f of some wedge sees p
pub record IsSeenBy (ws : List Wedge) (p : Vector) (f : ℕ) : Type 0 where
  pub place : ℕ
  pub within : place < length ws
  pub is : f ≡ (wedge_at ws place).facet
  pub seen : pos 0 <ℤ height (wedge_at ws place).plane p

-- the rays from a through x, y and z span a solid angle, and p lies in it
pub record IsBetweenRays (a x y z p : Vector) : Type 0 where
  pub spans : vol a x y z <ℤ pos 0
  pub after_y : vol a y z p ≤ℤ pos 0
  pub after_z : vol a z x p ≤ℤ pos 0
  pub after_x : vol a x y p ≤ℤ pos 0

-- p lies between three rays of the ring from a: the first, and the two of a wedge
pub record IsAmongRays (a : Vector) (ws : List Wedge) (p : Vector) : Type 0 where
  pub place : ℕ
  pub within : place < length ws
  pub between : IsBetweenRays a (wedge_at ws 0).from (wedge_at ws place).from (wedge_at ws place).to p

-- the certificate of each result
abbrev pub IsAnswer : Vector → List Wedge → Vector → Visibility → Type 0
IsAnswer a ws p (Seen f) = IsSeenBy ws p f
IsAnswer a ws p Unseen = IsAmongRays a ws p
IsAnswer a ws p Unknown = Unit {0}
