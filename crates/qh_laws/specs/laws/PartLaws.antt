-- The facets that stay are faces of the whole set, and faces of parts that close up are its hull.
use Rattle.std.specs.Prelude.{ℕ, ◌≡◌, ◌⊎◌, ◌↔◌, List, Bool, true}
use Rattle.qh_model.specs.contract.{IdSets.HasDistinctPoints, Surface.Surface, FinishedSurface.IsFinished, ClosedPolygons.IsFace}
use Rattle.qh_model.specs.headline.{Vector.Vector, Sets.In, Sets.Members, Dimension.IsDimension, Extreme.Extreme, SupportingPlane.IsSupportingTriple}
use Rattle.qh_model.specs.{headline.Polygons.RiseStrictly, headline.Polygons.IsFacePolygon, headline.Polygons.AreFaces, laws.CompletenessLaws.IsLiveCorner}
use Rattle.qh_laws.specs.contract.Seam.{IsSeam, IsStrictRing}
use Rattle.qh_laws.specs.contract.Parts.{AreKept, IsPart, IsClear, AreJoined}

-- ---- a part
-- if each kept id is strictly below the ring or in the part, each facet has a clear plane
abbrev pub StrictIsClear : Type 0
StrictIsClear = (at : ℕ → Vector) (kept ids : List ℕ) (m : Surface) (stay : ℕ → Bool) → IsFinished at ids m
    → IsStrictRing at kept ids m stay → (f : ℕ) → IsClear at kept m stay f

-- a seam to the other ids is a seam to them and to ids of the part
abbrev pub SeamOfOthers : Type 0
SeamOfOthers = (at : ℕ → Vector) (kept others ids : List ℕ) (m : Surface) (stay : ℕ → Bool) → IsFinished at ids m
    → ((l : ℕ) → In l kept → In l ids ⊎ In l others)
    → IsSeam at m stay (Members others) → IsSeam at m stay (Members kept)

-- an extreme id of the whole set is a corner of each part that has it
abbrev pub ExtremesAreKept : Type 0
ExtremesAreKept = (at : ℕ → Vector) (all ids : List ℕ) (m : Surface) → IsFinished at ids m → ((l : ℕ) → In l ids → In l all)
    → (l : ℕ) → Extreme at (Members all) l → In l ids → IsLiveCorner m l

-- a facet that stays supports all ids
abbrev pub StayingSupports : Type 0
StayingSupports = (at : ℕ → Vector) (all kept ids : List ℕ) (m : Surface) (stay : ℕ → Bool) → HasDistinctPoints at (Members all)
    → AreKept at all kept → IsPart at all kept ids m stay
    → (f : ℕ) → In f m.live → stay f ≡ true → IsSupportingTriple at (Members all) (m.i f) (m.j f) (m.k f)

-- a facet that stays and has a clear plane has the polygon of all ids
abbrev pub StayingHasPolygon : Type 0
StayingHasPolygon = (at : ℕ → Vector) (all kept ids : List ℕ) (m : Surface) (stay : ℕ → Bool) → HasDistinctPoints at (Members all)
    → AreKept at all kept → IsPart at all kept ids m stay
    → (f : ℕ) → In f m.live → stay f ≡ true → IsClear at kept m stay f
    → (q : List ℕ) → IsFacePolygon at (Members ids) (m.i f) (m.j f) (m.k f) q
    ↔ IsFacePolygon at (Members all) (m.i f) (m.j f) (m.k f) q

-- ---- all parts
-- a face of the kept ids is a face of all ids
abbrev pub FacesOfKept : Type 0
FacesOfKept = (at : ℕ → Vector) (all kept : List ℕ) → HasDistinctPoints at (Members all) → AreKept at all kept
    → (q : List ℕ) → IsFace at (Members kept) q → IsFace at (Members all) q

-- joined faces in rising order are all faces
abbrev pub JoinedAreFaces : Type 0
JoinedAreFaces = (at : ℕ → Vector) (all kept : List ℕ) (qs : List (List ℕ)) → HasDistinctPoints at (Members all)
    → AreKept at all kept → AreJoined at all kept qs → RiseStrictly qs → AreFaces at (Members all) qs

-- the corners of joined faces are the extreme ids
abbrev pub JoinedHaveExtremes : Type 0
JoinedHaveExtremes = (at : ℕ → Vector) (all kept : List ℕ) (qs : List (List ℕ)) → HasDistinctPoints at (Members all)
    → AreKept at all kept → AreJoined at all kept qs
    → (l : ℕ) → Extreme at (Members all) l ↔ ((q : List ℕ) × In q qs × In l q)

-- a set that has a part with a finished surface has dimension 3
abbrev pub PartIsSolid : Type 0
PartIsSolid = (at : ℕ → Vector) (all ids : List ℕ) (m : Surface) → IsFinished at ids m → ((l : ℕ) → In l ids → In l all)
    → IsDimension at (Members all) 3
