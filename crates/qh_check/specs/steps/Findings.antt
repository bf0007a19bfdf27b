-- Polygons of a list that are not pieces of faces of a set.
use Rattle.std.specs.Prelude.{ℕ, ◌<◌, ◌⊎◌, List, [], length, slice_index_or}
use Rattle.qh_model.specs.headline.Vector.{Vector}
use Rattle.qh_check.specs.{declared.findings.Finding.Finding, steps.Faces.IsFaceOf, steps.Faces.IsFaultOf, steps.HullFaces.IsPieceAmong}

-- the polygon is a piece of one of the faces of the hull, or its plane shows that it is a piece
abbrev pub IsSeen : List Vector → List ℕ → List (List ℕ) → List ℕ → Type 0
IsSeen pts ids faces q = IsPieceAmong pts faces q ⊎ IsFaceOf pts ids q

-- one of the polygons has the fault
abbrev pub IsFound : List Vector → List ℕ → List (List ℕ) → Finding → Type 0
IsFound pts ids qs f = (f.position < length qs) × IsFaultOf pts ids (slice_index_or qs f.position []) f.fault
