-- The live facets of a finished surface that lie in one plane.
use Rattle.std.specs.Prelude.{ℕ, ◌≡◌, ◌↔◌, List, Bool, true, pos}
use Rattle.qh_model.specs.contract.{Surface.Side, Surface.Surface, Surface.IsCorner, FinishedSurface.IsFinished}
use Rattle.qh_model.specs.{headline.Vector.Vector, headline.Predicates.cross, headline.Predicates.vol, headline.Sets.In, laws.FaceLaws.IsAlong}

-- l is in the plane of facet f
abbrev pub IsLevelWith : (ℕ → Vector) → Surface → ℕ → ℕ → Type 0
IsLevelWith at m f l = vol (at (m.i f)) (at (m.j f)) (at (m.k f)) (at l) ≡ pos 0

-- facet g is in the plane of facet f
abbrev pub IsLevelFacet : (ℕ → Vector) → Surface → ℕ → ℕ → Type 0
IsLevelFacet at m f g = (l : ℕ) → IsCorner m g l → IsLevelWith at m f l

-- f and g span the same plane, with the same side outside
pub record HaveOnePlane (at : ℕ → Vector) (m : Surface) (f g : ℕ) : Type 0 where
  pub along : IsAlong (cross (at (m.i f)) (at (m.j f)) (at (m.k f))) (cross (at (m.i g)) (at (m.j g)) (at (m.k g)))
  pub same : (l : ℕ) → IsLevelWith at m f l ↔ IsLevelWith at m g l

-- a set c of facets that has f and, for each of its facets, every neighbour in the plane of f
pub record IsPlaneWalk (at : ℕ → Vector) (m : Surface) (f : ℕ) (c : ℕ → Bool) : Type 0 where
  pub has : c f ≡ true
  pub grows : (g : ℕ) → In g m.live → (s : Side) → c g ≡ true → IsLevelFacet at m f (m.over g s) → c (m.over g s) ≡ true

-- a facet in the plane of another spans that plane
abbrev pub LevelFacetsSpan : Type 0
LevelFacetsSpan = (at : ℕ → Vector) (ids : List ℕ) (m : Surface) → IsFinished at ids m → (f g : ℕ) → In f m.live → In g m.live
    → IsLevelFacet at m f g → HaveOnePlane at m f g

-- a walk over twins in the plane of a facet finds all facets in that plane
abbrev pub PlaneWalkFindsAll : Type 0
PlaneWalkFindsAll = (at : ℕ → Vector) (ids : List ℕ) (m : Surface) → IsFinished at ids m → (f : ℕ) → In f m.live
    → (c : ℕ → Bool) → IsPlaneWalk at m f c → (g : ℕ) → In g m.live → IsLevelFacet at m f g → c g ≡ true
