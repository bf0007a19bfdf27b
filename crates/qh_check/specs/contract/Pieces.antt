-- Pieces of faces: polygons that go round some corners of a face. This project's own.
use Rattle.std.specs.Prelude.{ℕ, ◌≡◌, ◌<◌, ◌+◌, ◌++◌, ◌⊎◌, List, [], ◌∷◌, length, drop, take, slice_index_or}
use Rattle.qh_model.specs.headline.{Vector.Vector, SupportingPlane.IsSupportingTriple, Polygons.IsFacePolygon}

-- the polygon begins with the corners i, j, k
abbrev pub BeginsWith : List ℕ → ℕ → ℕ → ℕ → Type 0
BeginsWith q i j k = (rest : List ℕ) × (q ≡ i ∷ j ∷ k ∷ rest)

-- the members of the first list occur in the second list in this order
abbrev pub IsMetAlong : List ℕ → List ℕ → Type 0
IsMetAlong [] q = Unit {0}
IsMetAlong (u ∷ p) [] = ⊥
IsMetAlong (u ∷ p) (v ∷ q) = ((u ≡ v) × IsMetAlong p q) ⊎ IsMetAlong (u ∷ p) q

-- the face has u at position k, and the others of the list occur in order on the way round from there
abbrev pub IsMetFrom : ℕ → List ℕ → List ℕ → ℕ → Type 0
IsMetFrom u p face k =
    (k < length face) × (slice_index_or face k 0 ≡ u) × IsMetAlong p (drop (k + 1) face ++ take k face)

-- the polygon goes round some corners of the face, in their order
abbrev pub IsMetRound : List ℕ → List ℕ → Type 0
IsMetRound [] face = ⊥
IsMetRound (u ∷ p) face = (k : ℕ) × IsMetFrom u p face k

-- the polygon begins with i, j, k, and goes round corners of the face in their plane
abbrev pub IsOfPlane : (ℕ → Vector) → (ℕ → Type 0) → ℕ → ℕ → ℕ → List ℕ → Type 0
IsOfPlane at A i j k q = BeginsWith q i j k × ((face : List ℕ) × IsFacePolygon at A i j k face × IsMetRound q face)

-- the first three corners span a supporting plane, seen from outside, and the polygon goes round corners of its face
abbrev pub IsPiece : (ℕ → Vector) → (ℕ → Type 0) → List ℕ → Type 0
IsPiece at A q = (i j k : ℕ) × IsSupportingTriple at A i j k × IsOfPlane at A i j k q
