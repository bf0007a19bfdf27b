-- Laws of hulls: a set and its extreme ids have the same hull, and each part of a hull is unique.
use Rattle.std.specs.Prelude.{ℕ, ◌≡◌, ◌↔◌, List}
use Rattle.std.specs.List.Sorted.{IsStrictlyIncreasing}
use Rattle.qh_model.specs.{contract.IdSets.HasDistinctPoints, declared.out.Out.Out, headline.Vector.Vector, headline.Predicates.place}
use Rattle.qh_model.specs.headline.{Sets.In, Sets.Members, DistinctIds.AreDistinctIds, Dimension.IsDimension, Extreme.Extreme}
use Rattle.qh_model.specs.headline.{SupportingPlane.IsSupportingTriple, Polygons.ArePolygons, Polygons.IsEdgeCount}
use Rattle.qh_model.specs.headline.Hull.{BodyValue, HullValue, IsBody, IsHull}
use Rattle.qh_model.specs.headline.Text.{IsText}

-- a triple of extreme ids supports the extreme ids exactly if it supports the set
abbrev pub TriplesOfExtremes : Type 0
TriplesOfExtremes = (at : ℕ → Vector) (ids : List ℕ) → HasDistinctPoints at (Members ids)
    → (i j k : ℕ) → Extreme at (Members ids) i → Extreme at (Members ids) j → Extreme at (Members ids) k
    → IsSupportingTriple at (Extreme at (Members ids)) i j k ↔ IsSupportingTriple at (Members ids) i j k

-- a set and its extreme ids have the same polygons, so the same edges
abbrev pub PolygonsOfExtremes : Type 0
PolygonsOfExtremes = (at : ℕ → Vector) (ids : List ℕ) (dim : ℕ) (qs : List (List ℕ)) → HasDistinctPoints at (Members ids) → IsDimension at (Members ids) dim
    → ArePolygons at (Extreme at (Members ids)) dim qs ↔ ArePolygons at (Members ids) dim qs

-- a set has at most one list of polygons
abbrev pub PolygonsAreUnique : Type 0
PolygonsAreUnique = (at : ℕ → Vector) (ids : List ℕ) (dim : ℕ) (ps qs : List (List ℕ)) → IsDimension at (Members ids) dim
    → ArePolygons at (Members ids) dim ps → ArePolygons at (Members ids) dim qs → ps ≡ qs

-- polygons have at most one number of edges
abbrev pub EdgeCountIsUnique : Type 0
EdgeCountIsUnique = (qs : List (List ℕ)) (m n : ℕ) → IsEdgeCount qs m → IsEdgeCount qs n → m ≡ n

-- a set of ids has at most one rising list
abbrev pub RisingListIsUnique : Type 0
RisingListIsUnique = (xs ys : List ℕ) → IsStrictlyIncreasing xs → IsStrictlyIncreasing ys → ((i : ℕ) → In i xs ↔ In i ys) → xs ≡ ys

-- a list of points has at most one list of distinct ids
abbrev pub DistinctIdsAreUnique : Type 0
DistinctIdsAreUnique = (pts : List Vector) (xs ys : List ℕ) → AreDistinctIds pts xs → AreDistinctIds pts ys → xs ≡ ys

-- a body is right for the extreme ids exactly if it is right for the set
abbrev pub BodyOfExtremes : Type 0
BodyOfExtremes = (at : ℕ → Vector) (ids : List ℕ) (b : BodyValue) → HasDistinctPoints at (Members ids)
    → IsBody at (Extreme at (Members ids)) b ↔ IsBody at (Members ids) b

-- ids of a set that include all its extreme ids
pub record HasExtremes (pts : List Vector) (ids part : List ℕ) : Type 0 where
  pub within : (i : ℕ) → In i part → In i ids
  pub extremes : (i : ℕ) → Extreme (place pts) (Members ids) i → In i part

-- a part of a set that has all extreme ids of the set has the same extreme ids
abbrev pub ExtremesOfPart : Type 0
ExtremesOfPart = (at : ℕ → Vector) (ids part : List ℕ) → HasDistinctPoints at (Members ids)
    → ((i : ℕ) → Members part i → Members ids i) → ((i : ℕ) → Extreme at (Members ids) i → Members part i)
    → (i : ℕ) → Extreme at (Members part) i ↔ Extreme at (Members ids) i

-- a body that is right for this part is right for the set
abbrev pub BodyOfPart : Type 0
BodyOfPart = (at : ℕ → Vector) (ids part : List ℕ) (b : BodyValue) → HasDistinctPoints at (Members ids)
    → ((i : ℕ) → Members part i → Members ids i) → ((i : ℕ) → Extreme at (Members ids) i → Members part i)
    → IsBody at (Members part) b → IsBody at (Members ids) b

-- no two bodies are right for one set
abbrev pub BodyIsUnique : Type 0
BodyIsUnique = (at : ℕ → Vector) (ids : List ℕ) (a b : BodyValue) → IsBody at (Members ids) a → IsBody at (Members ids) b → a ≡ b

-- no two hulls are right for one list of points
abbrev pub HullIsUnique : Type 0
HullIsUnique = (pts : List Vector) (a b : HullValue) → IsHull pts a → IsHull pts b → a ≡ b

-- no two texts are right for one list of points and outputs
abbrev pub TextIsUnique : Type 0
TextIsUnique = (pts : List Vector) (outs : List Out) (s t : List ℕ) → IsText pts outs s → IsText pts outs t → s ≡ t
