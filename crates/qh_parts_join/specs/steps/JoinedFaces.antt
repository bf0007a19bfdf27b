-- The hull of a set from all its faces.
-- This project's own.
use Rattle.std.specs.Prelude.{ℕ, ◌⊎◌, List}
use Rattle.qh_model.specs.headline.{Vector.Vector, Dimension.IsDimension, Hull.BodyValue, Hull.IsBody, Sets.In, Sets.Members}
use Rattle.qh_model.specs.contract.{ClosedPolygons.AreClosed, ClosedPolygons.IsFace, IdSets.HasDistinctPoints}
use Rattle.qh_laws.specs.contract.Parts.{AreKept, IsPartFace}

-- the hull of each solid set, if the faces close up and each is contributed by a part or is a face of the kept ids
abbrev pub IsBodyOfFaces : List (List ℕ) → BodyValue → Type 0
IsBodyOfFaces faces b = (at : ℕ → Vector) (ids kept : List ℕ) → HasDistinctPoints at (Members ids)
    → IsDimension at (Members ids) 3 → AreKept at ids kept → AreClosed faces
    → ((q : List ℕ) → In q faces → IsPartFace at ids kept q ⊎ IsFace at (Members kept) q) → IsBody at (Members ids) b
