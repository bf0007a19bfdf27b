-- Faces of a set, by the first three corners of a polygon.
use Rattle.std.specs.Prelude.{ℕ, pos, ◌≡◌, ◌<◌, ◌<ℤ◌, List, ◌∷◌, length}
use Rattle.qh_model.specs.{contract.IdSets.HasDistinctPoints, headline.Vector.Vector}
use Rattle.qh_model.specs.headline.{Predicates.place, Predicates.vol, Predicates.AreInLine, Sets.In, Sets.Members, SupportingPlane.IsSupportingTriple}
use Rattle.qh_check.specs.{contract.Claims.IsFaceFault, contract.Pieces.BeginsWith, contract.Pieces.IsOfPlane, declared.faces.FirstThree.FirstThree}
use Rattle.qh_check.specs.declared.fault.FaceFault.{FaceFault, TheVariants.NoPlane, TheVariants.Above, TheVariants.OtherFace}

-- the polygon begins with three indices of points
pub record BeginsWithThree (pts : List Vector) (q : List ℕ) (t : FirstThree) : Type 0 where
  pub rest : List ℕ
  pub i_in : t.i < length pts
  pub j_in : t.j < length pts
  pub k_in : t.k < length pts
  pub is : q ≡ t.i ∷ t.j ∷ t.k ∷ rest

-- the polygon does not begin with three indices of points
abbrev pub BeginsWithoutThree : List Vector → List ℕ → Type 0
BeginsWithoutThree pts q =
    (i j k : ℕ) (r : List ℕ) → q ≡ i ∷ j ∷ k ∷ r → i < length pts → j < length pts → k < length pts → ⊥

-- the three support the set, and q, which begins with them, goes round corners of the face of their plane
abbrev pub IsFaceAt : List Vector → List ℕ → FirstThree → List ℕ → Type 0
IsFaceAt pts ids t q = BeginsWith q t.i t.j t.k → HasDistinctPoints (place pts) (Members ids)
    → IsSupportingTriple (place pts) (Members ids) t.i t.j t.k × IsOfPlane (place pts) (Members ids) t.i t.j t.k q

-- a fault of q as a polygon of the plane of the three
abbrev pub IsFaultAt : List Vector → List ℕ → FirstThree → List ℕ → FaceFault → Type 0
IsFaultAt pts ids t q NoPlane =
    In t.i ids → In t.j ids → In t.k ids → AreInLine (place pts t.i) (place pts t.j) (place pts t.k)
IsFaultAt pts ids t q (Above l) =
    In l ids × (pos 0 <ℤ vol (place pts t.i) (place pts t.j) (place pts t.k) (place pts l))
IsFaultAt pts ids t q OtherFace = HasDistinctPoints (place pts) (Members ids)
    → IsSupportingTriple (place pts) (Members ids) t.i t.j t.k × ¬ (IsOfPlane (place pts) (Members ids) t.i t.j t.k q)

-- the polygon goes round corners of the face of a supporting plane of the set, if its points are distinct
abbrev pub IsFaceOf : List Vector → List ℕ → List ℕ → Type 0
IsFaceOf pts ids q = HasDistinctPoints (place pts) (Members ids) → (i j k : ℕ)
    × IsSupportingTriple (place pts) (Members ids) i j k × IsOfPlane (place pts) (Members ids) i j k q

-- the polygon has this fault, if the points of the set are distinct
abbrev pub IsFaultOf : List Vector → List ℕ → List ℕ → FaceFault → Type 0
IsFaultOf pts ids q fault =
    HasDistinctPoints (place pts) (Members ids) → IsFaceFault (place pts) (Members ids) q fault
