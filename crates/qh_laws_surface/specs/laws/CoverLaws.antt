-- Laws of surfaces in pieces: a surface covers each face of a solid once, and pieces that cover each face once are a surface.
-- This project's own.
use Rattle.std.specs.Prelude.{ℕ, ◌≡◌, ◌≤◌, List, count_by, true}
use Rattle.qh_model.specs.{contract.ClosedPolygons.IsFace, contract.IdSets.HasDistinctPoints, headline.Vector.Vector, headline.Sets.In, headline.Sets.Members}
use Rattle.qh_model.specs.headline.{Dimension.IsDimension, Hull.BodyValue, Hull.IsBody}
use Rattle.qh_check.specs.contract.{Pieces.IsPiece, Surfaces.IsHullSurface}
use Rattle.qh_laws_surface.specs.contract.Covering.{Spot, covers, reaches, IsOffLines}

-- the corners of each piece are corners of one face
abbrev pub PiecesLieInFaces : Type 0
PiecesLieInFaces = (at : ℕ → Vector) (ids : List ℕ) (qs : List (List ℕ)) → HasDistinctPoints at (Members ids)
    → IsDimension at (Members ids) 3 → IsHullSurface at (Members ids) qs
    → (q : List ℕ) → In q qs → (face : List ℕ) × IsFace at (Members ids) face × ((l : ℕ) → In l q → In l face)

-- each point of a piece is a point of the face that has its corners, and one strictly inside the piece is strictly inside the face
abbrev pub SpotsLieInFaces : Type 0
SpotsLieInFaces = (at : ℕ → Vector) (ids : List ℕ) (qs : List (List ℕ)) → HasDistinctPoints at (Members ids)
    → IsDimension at (Members ids) 3 → IsHullSurface at (Members ids) qs
    → (q : List ℕ) → In q qs → (face : List ℕ) → IsFace at (Members ids) face → ((l : ℕ) → In l q → In l face)
    → (s : Spot) → (reaches at s q ≡ true → reaches at s face ≡ true) × (covers at s q ≡ true → covers at s face ≡ true)

-- each point of a face lies strictly inside some piece or on its border
abbrev pub FacesAreCovered : Type 0
FacesAreCovered = (at : ℕ → Vector) (ids : List ℕ) (qs : List (List ℕ)) → HasDistinctPoints at (Members ids)
    → IsDimension at (Members ids) 3 → IsHullSurface at (Members ids) qs
    → (face : List ℕ) → IsFace at (Members ids) face
    → (s : Spot) → reaches at s face ≡ true → (q : List ℕ) × In q qs × (reaches at s q ≡ true)

-- no point lies strictly inside two pieces
abbrev pub PiecesAreApart : Type 0
PiecesAreApart = (at : ℕ → Vector) (ids : List ℕ) (qs : List (List ℕ)) → HasDistinctPoints at (Members ids)
    → IsDimension at (Members ids) 3 → IsHullSurface at (Members ids) qs → (s : Spot) → count_by (covers at s) qs ≤ 1

-- a point strictly inside a face, on no line through two of its corners, lies strictly inside exactly one piece
abbrev pub FacesAreCoveredOnce : Type 0
FacesAreCoveredOnce = (at : ℕ → Vector) (ids : List ℕ) (qs : List (List ℕ)) → HasDistinctPoints at (Members ids)
    → IsDimension at (Members ids) 3 → IsHullSurface at (Members ids) qs
    → (face : List ℕ) → IsFace at (Members ids) face
    → (s : Spot) → covers at s face ≡ true → IsOffLines at s face → count_by (covers at s) qs ≡ 1

-- pieces that cover each face of a right body once are a surface
abbrev pub CoveringIsSurface : Type 0
CoveringIsSurface = (at : ℕ → Vector) (ids : List ℕ) (qs : List (List ℕ)) (b : BodyValue) → HasDistinctPoints at (Members ids)
    → IsDimension at (Members ids) 3 → IsBody at (Members ids) b
    → ((q : List ℕ) → In q qs → IsPiece at (Members ids) q)
    → ((face : List ℕ) → In face b.polygons → (s : Spot) → covers at s face ≡ true → IsOffLines at s face → count_by (covers at s) qs ≡ 1)
    → IsHullSurface at (Members ids) qs
