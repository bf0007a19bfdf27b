-- A run of Quickhull over a list of points, each identified by its position: the invariants between two rounds, and within a round.
-- Source: Barber, Dobkin and Huhdanpaa 1996 (outside sets, the horizon, the cone of new facets).
use Rattle.qh_mesh.specs.contract.{Replacement.IsLive, SoundMesh.facet_vol, SoundMesh.IsSoundMesh, SoundMesh.IsClosedMesh}
use Rattle.qh_model.specs.{contract.FinishedSurface.middle_at, contract.StoredSurface.StoredFacet, headline.Predicates.vol, headline.Predicates.place}
use Rattle.{qh_model.specs.headline.Sets.In, qh_model.specs.headline.Vector.Vector, qh_pred.specs.contract.Planes.PlaneValue}
use Rattle.{qh_pred.specs.contract.Planes.height, qh_surface.specs.contract.Corners.AreCornersBelow, qh_surface.specs.contract.OutsideSets.OutsideValue}
use Rattle.qh_surface.specs.{contract.OutsideSets.set_of, contract.OutsideSets.joined, steps.Planes.plane_at, steps.Planes.ArePlanes}
use Rattle.std.specs.Prelude.{All, ◌≡◌, ℕ, ◌<◌, ◌≤◌, ◌⊎◌, List, [], ◌∷◌, length, slice_set, true, ℤ, pos, ◌≤ℤ◌, ◌<ℤ◌}

-- six times the volume of facet f and the point at position p: above 0 if the facet strictly sees it
abbrev pub height_at : List Vector → List StoredFacet → ℕ → ℕ → ℤ
height_at pts fs f p = facet_vol (place pts) fs f (place pts p)

-- no facet sees the point at position p
abbrev pub IsDone : List Vector → List StoredFacet → ℕ → Type 0
IsDone pts fs p = (f : ℕ) → IsLive fs f → height_at pts fs f p ≤ℤ pos 0

-- no facet sees a point of the list
abbrev pub AreDone : List Vector → List StoredFacet → Type 0
AreDone pts fs = (p : ℕ) → p < length pts → IsDone pts fs p

-- position p is in some outside set
abbrev pub IsOutside : OutsideValue → ℕ → Type 0
IsOutside v p = (f : ℕ) × In p (set_of v f)

-- the points of each outside set are above its facet, which is live
abbrev pub AreOutside : List Vector → List StoredFacet → OutsideValue → Type 0
AreOutside pts fs v = (f p : ℕ) → In p (set_of v f) → IsLive fs f × (pos 0 <ℤ height_at pts fs f p)

-- a mesh over the points that is sound around the middle of four of them, and closed
pub record IsGrown (pts : List Vector) (fs : List StoredFacet) : Type 0 where
  pub s : ℕ
  pub t : ℕ
  pub u : ℕ
  pub v : ℕ
  pub s_in : s < length pts
  pub t_in : t < length pts
  pub u_in : u < length pts
  pub v_in : v < length pts
  pub volume : vol (place pts s) (place pts t) (place pts u) (place pts v) <ℤ pos 0
  pub sound : IsSoundMesh (place pts) fs (middle_at (place pts) s t u v)
  pub closed : IsClosedMesh (place pts) fs
  pub corners : AreCornersBelow (length pts) fs

-- the state that a run keeps from round to round: points by position, a mesh over them, the plane of each place, the points that are not settled, and the
-- facets that wait
pub record RunState : Type 0 where
  pub points : List Vector
  pub mesh : List StoredFacet
  pub planes : List PlaneValue
  pub sets : OutsideValue
  pub pending : List ℕ

-- between rounds: each point is in the outside set of a waiting facet that it is above, or no facet sees it
pub record IsUnderWay (s : RunState) : Type 0 where
  pub grown : IsGrown s.points s.mesh
  pub planes : ArePlanes (place s.points) s.mesh s.planes
  pub positions : s.sets.positions ≡ length s.points
  pub places : length s.mesh ≤ length s.sets.sets
  pub range : All (λ f. f < length s.sets.sets) s.pending
  pub outside : AreOutside s.points s.mesh s.sets
  pub none : s.sets.orphans ≡ []
  pub waits : (f p : ℕ) → In p (set_of s.sets f) → In f s.pending
  pub all : (p : ℕ) → p < length s.points → IsOutside s.sets p ⊎ IsDone s.points s.mesh p

-- the run with these sets and these waiting facets
abbrev pub with_waiting : RunState → OutsideValue → List ℕ → RunState
with_waiting s v pending = record { points = s.points; mesh = s.mesh; planes = s.planes; sets = v; pending = pending }

-- the sets with the position a in front of that of facet f
abbrev pub with_first : OutsideValue → ℕ → ℕ → OutsideValue
with_first v f a =
    record { positions = v.positions; orphans = v.orphans; sets = slice_set v.sets f (joined true a (set_of v f)) }

-- the position a was removed from the outside set of facet f, to be the next apex: with both restored, the run is under way
pub record IsPicked (s : RunState) (f a : ℕ) : Type 0 where
  pub apex : a < length s.points
  pub before : IsUnderWay (with_waiting s (with_first s.sets f a) (f ∷ s.pending))

-- while the orphans are distributed among the new facets: an orphan that sees no new facet sees no facet
pub record IsSettling (pts : List Vector) (fs : List StoredFacet) (v : OutsideValue)
    (pending made : List ℕ) : Type 0 where
  pub outside : AreOutside pts fs v
  pub waits : (f p : ℕ) → In p (set_of v f) → In f pending ⊎ In f made
  pub all : (p : ℕ) → p < length pts → In p v.orphans ⊎ IsOutside v p ⊎ IsDone pts fs p
  pub drops : (p : ℕ) → In p v.orphans → All (λ f. height_at pts fs f p ≤ℤ pos 0) made → IsDone pts fs p

-- the plane at f is that of facet f
abbrev pub IsPlaneOf : List Vector → List StoredFacet → List PlaneValue → ℕ → Type 0
IsPlaneOf pts fs ps f = (f < length ps) × ((p : Vector) → height (plane_at ps f) p ≡ facet_vol (place pts) fs f p)

-- there are new facets that have no plane and no outside set yet
pub record IsRemade (s : RunState) (made : List ℕ) : Type 0 where
  pub grown : IsGrown s.points s.mesh
  pub planes : (f : ℕ) → IsLive s.mesh f → IsPlaneOf s.points s.mesh s.planes f ⊎ In f made
  pub made_live : All (IsLive s.mesh) made
  pub positions : s.sets.positions ≡ length s.points
  pub range : All (λ f. f < length s.sets.sets) s.pending
  pub settling : IsSettling s.points s.mesh s.sets s.pending made
