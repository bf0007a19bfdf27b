-- Parts of a set, each with a finished surface and a seam to the others, and the faces that they contribute.
-- This project's own.
use Rattle.std.specs.Prelude.{ℕ, ◌≡◌, ◌⊎◌, List, Bool, true, pos}
use Rattle.qh_model.specs.contract.{Surface.Surface, Surface.IsCorner, FinishedSurface.IsFinished, ClosedPolygons.IsFace, ClosedPolygons.AreClosed}
use Rattle.qh_model.specs.headline.{Vector.Vector, Sets.In, Sets.Members, Extreme.Extreme, SupportingPlane.OnPlane, Polygons.IsFacePolygon}
use Rattle.qh_laws.specs.contract.Seam.{height_over, IsBelowAll, IsRing, IsSeam}

-- the kept ids are some of all ids, and include all extreme ids
pub record AreKept (at : ℕ → Vector) (all kept : List ℕ) : Type 0 where
  pub inside : (l : ℕ) → In l kept → In l all
  pub extremes : (l : ℕ) → Extreme at (Members all) l → In l kept

-- a finished surface of some of all ids, with a seam to the kept ids
pub record IsPart (at : ℕ → Vector) (all kept ids : List ℕ) (m : Surface) (stay : ℕ → Bool) : Type 0 where
  pub finished : IsFinished at ids m
  pub inside : (l : ℕ) → In l ids → In l all
  pub seam : IsSeam at m stay (Members kept)

-- the corners of facet g are in the plane of facet f
abbrev pub IsInPlaneOf : (ℕ → Vector) → Surface → (f g : ℕ) → Type 0
IsInPlaneOf at m f g = (l : ℕ) → IsCorner m g l → height_over at m f (at l) ≡ pos 0

-- if a facet of the ring lies in the plane of f, no kept id in that plane is above a facet
abbrev pub IsClear : (ℕ → Vector) → List ℕ → Surface → (ℕ → Bool) → ℕ → Type 0
IsClear at kept m stay f =
    (g : ℕ) → IsRing m stay g → IsInPlaneOf at m f g
    → (l : ℕ) → OnPlane at (Members kept) (m.i g) (m.j g) (m.k g) l → IsBelowAll at m (at l)

-- the polygon, in a part, of a facet that stays and has a clear plane
pub record IsPartFace (at : ℕ → Vector) (all kept : List ℕ) (q : List ℕ) : Type 0 where
  pub ids : List ℕ
  pub m : Surface
  pub stay : ℕ → Bool
  pub part : IsPart at all kept ids m stay
  pub f : ℕ
  pub live : In f m.live
  pub stays : stay f ≡ true
  pub clear : IsClear at kept m stay f
  pub polygon : IsFacePolygon at (Members ids) (m.i f) (m.j f) (m.k f) q

-- polygons of parts, and others that are faces of the kept ids, at least one, that close up
pub record AreJoined (at : ℕ → Vector) (all kept : List ℕ) (qs : List (List ℕ)) : Type 0 where
  pub some : List ℕ
  pub there : In some qs
  pub each : (q : List ℕ) → In q qs → IsPartFace at all kept q ⊎ IsFace at (Members kept) q
  pub closed : AreClosed qs
