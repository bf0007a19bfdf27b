-- The facets below one point, determined by a test of few facets.
use Rattle.std.specs.Prelude.{ℕ, ◌≡◌, List, Bool, true, ℤ, pos, ◌+ℤ◌, ◌-ℤ◌, ◌*ℤ◌, ◌≤ℤ◌, ◌<ℤ◌}
use Rattle.qh_model.specs.contract.{Weighted.Weighted, Surface.Side, Surface.Surface, SoundSurface.IsInner}
use Rattle.qh_model.specs.contract.FinishedSurface.{weighted_at, middle_at, IsFinished}
use Rattle.qh_model.specs.headline.{Vector.Vector, Vector.dot, Predicates.vol, Sets.In, Sets.Members, Combination.Combination, SupportingPlane.OnPlane}
use Rattle.qh_model.specs.laws.{UnseenPoints.IsUnseen, FacetPlanes.IsLevelFacet}
use Rattle.qh_laws.specs.contract.Seam.{height_over, IsBelowAll, SeesGone, IsRing}
use Rattle.qh_laws.specs.contract.Between.{IsWithin, IsBetween, IsBetweenFour}

-- a point above a facet that does not stay and above no facet of the ring is above no facet that stays
abbrev pub RingHidesRest : Type 0
RingHidesRest = (at : ℕ → Vector) (ids : List ℕ) (m : Surface) → IsFinished at ids m
    → (stay : ℕ → Bool) (p : Vector) → SeesGone at m stay p
    → ((f : ℕ) → IsRing m stay f → height_over at m f p ≤ℤ pos 0)
    → (f : ℕ) → In f m.live → stay f ≡ true → height_over at m f p ≤ℤ pos 0

-- ---- points in the plane of a facet
-- a neighbour in another plane, across a side of a facet in the plane of f
pub record IsBeside (at : ℕ → Vector) (m : Surface) (f g : ℕ) : Type 0 where
  pub h : ℕ
  pub live : In h m.live
  pub level : IsLevelFacet at m f h
  pub side : Side
  pub over_is : m.over h side ≡ g
  pub other : ¬ (IsLevelFacet at m f g)

-- a point in the plane of f and above no facet beside that plane is above no facet
abbrev pub SidesHideRest : Type 0
SidesHideRest = (at : ℕ → Vector) (ids : List ℕ) (m : Surface) → IsFinished at ids m → (f : ℕ) → In f m.live
    → (p : Vector) → height_over at m f p ≡ pos 0
    → ((g : ℕ) → IsBeside at m f g → height_over at m g p ≤ℤ pos 0)
    → IsBelowAll at m p

-- a point above no facet is a convex combination of the set
abbrev pub BelowIsCombination : Type 0
BelowIsCombination = (at : ℕ → Vector) (ids : List ℕ) (m : Surface) → IsFinished at ids m
    → (p : Vector) → IsBelowAll at m p → Combination at (Members ids) p

-- a point above no facet, in the plane of a facet, is a convex combination of the members in that plane
abbrev pub LevelIsInPolygon : Type 0
LevelIsInPolygon = (at : ℕ → Vector) (ids : List ℕ) (m : Surface) → IsFinished at ids m → (f : ℕ) → In f m.live
    → (p : Vector) → IsBelowAll at m p → height_over at m f p ≡ pos 0
    → Combination at (OnPlane at (Members ids) (m.i f) (m.j f) (m.k f)) p

-- ---- points between a facet and an inner place
-- a point between a facet and a place that no facet sees is above no facet
abbrev pub WithinIsBelow : Type 0
WithinIsBelow = (at : ℕ → Vector) (ids : List ℕ) (m : Surface) → IsFinished at ids m
    → (o : Weighted) → IsUnseen m (weighted_at at) o
    → (f : ℕ) → In f m.live → (p : Vector) → IsWithin at m o f p → IsBelowAll at m p

-- a point between a facet and a member is above no facet
abbrev pub BetweenIsBelow : Type 0
BetweenIsBelow = (at : ℕ → Vector) (ids : List ℕ) (m : Surface) → IsFinished at ids m → (c : ℕ) → Members ids c
    → (f : ℕ) → In f m.live → (p : Vector) → IsBetween at m c f p → IsBelowAll at m p

-- the middle of any tetrahedron of members is an inner point
abbrev pub MiddleIsInner : Type 0
MiddleIsInner = (at : ℕ → Vector) (ids : List ℕ) (m : Surface) → IsFinished at ids m
    → (s t u v : ℕ) → Members ids s → Members ids t → Members ids u → Members ids v
    → vol (at s) (at t) (at u) (at v) <ℤ pos 0 → IsInner m (weighted_at at) (middle_at at s t u v)

-- a point between a facet and that middle is above no facet
abbrev pub BetweenFourIsBelow : Type 0
BetweenFourIsBelow = (at : ℕ → Vector) (ids : List ℕ) (m : Surface) → IsFinished at ids m
    → (s t u v : ℕ) → Members ids s → Members ids t → Members ids u → Members ids v
    → vol (at s) (at t) (at u) (at v) <ℤ pos 0
    → (f : ℕ) → In f m.live → (p : Vector) → IsBetweenFour at m s t u v f p → IsBelowAll at m p

-- ---- boxes
-- n - l m
abbrev pub less_times : Vector → ℤ → Vector → Vector
less_times n l m = record { x = n.x -ℤ l *ℤ m.x; y = n.y -ℤ l *ℤ m.y; z = n.z -ℤ l *ℤ m.z }

-- a point that is at most h along m, in a box that is at most g along n - l m, is below c along n
abbrev pub SlabIsBelow : Type 0
SlabIsBelow = (n m p : Vector) (l h g c : ℤ) → pos 0 ≤ℤ l → dot m p ≤ℤ h → dot (less_times n l m) p ≤ℤ g
    → (l *ℤ h +ℤ g) <ℤ c → dot n p <ℤ c
