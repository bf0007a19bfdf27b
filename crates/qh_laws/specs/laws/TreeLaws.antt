-- Trees by which parts of a list of points are joined, and their results.
use Rattle.std.specs.Prelude.{ℕ, ◌≡◌, ◌<◌, ◌⊎◌, ◌↔◌, List, length, get_or, map}
use Rattle.std.specs.List.Sorted.{IsStrictlyIncreasing}
use Rattle.qh_model.specs.headline.{Vector.Vector, Predicates.place, Sets.In, Sets.Members}
use Rattle.qh_model.specs.headline.Hull.{BodyValue, HullValue, IsBody, IsHull}

-- a part, as the ids of its points in the whole list; the union of two trees; the extreme points of the result of a tree
pub data Tree : Type 0 where
  part : (ids : List ℕ) → Tree
  join : (left right : Tree) → Tree
  extremes : (all : Tree) → Tree

-- the id is in a part of the tree
abbrev pub IsGiven : Tree → ℕ → Type 0
IsGiven (part ids) i = In i ids
IsGiven (join s t) i = IsGiven s i ⊎ IsGiven t i
IsGiven (extremes t) i = IsGiven t i

-- the extreme points of the points of some ids, computed as a list of their own: positions in it represent these ids
pub record IsAnswer (pts : List Vector) (ids xs : List ℕ) : Type 0 where
  pub hull : HullValue
  pub right : IsHull (map (place pts) ids) hull
  pub named : xs ≡ map (λ k. get_or ids k 0) hull.body.extremes

-- the rising ids of both lists
pub record IsUnion (ys zs xs : List ℕ) : Type 0 where
  pub rising : IsStrictlyIncreasing xs
  pub members : (i : ℕ) → In i xs ↔ (In i ys ⊎ In i zs)

-- the ids in the result of a tree
abbrev pub ComesOut : List Vector → Tree → List ℕ → Type 0
ComesOut pts (part ids) xs = IsStrictlyIncreasing ids × (xs ≡ ids)
ComesOut pts (join s t) xs = (ys : List ℕ) × (zs : List ℕ) × ComesOut pts s ys × ComesOut pts t zs × IsUnion ys zs xs
ComesOut pts (extremes t) xs = (ys : List ℕ) × ComesOut pts t ys × IsAnswer pts ys xs

-- the parts of the tree have exactly the ids of all points
abbrev pub IsTreeOf : List Vector → Tree → Type 0
IsTreeOf pts t = (i : ℕ) → IsGiven t i ↔ (i < length pts)

-- the extreme points of the result of a tree over all points are the extreme ids
abbrev pub AnyTreeOfUnions : Type 0
AnyTreeOfUnions = (pts : List Vector) (t : Tree) (xs : List ℕ) (h : HullValue) → IsTreeOf pts t → ComesOut pts (extremes t) xs → IsHull pts h
    → xs ≡ h.body.extremes

-- the hull of these extreme points is that of all points
abbrev pub HullOfAnyTree : Type 0
HullOfAnyTree = (pts : List Vector) (t : Tree) (xs : List ℕ) (b : BodyValue) (h : HullValue) → IsTreeOf pts t → ComesOut pts (extremes t) xs
    → IsBody (place pts) (Members xs) b → IsHull pts h → b ≡ h.body
