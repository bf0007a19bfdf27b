-- The hull of a set from faces that its parts contribute, joined with others.
-- This project's own.
use Rattle.std.specs.Prelude.{ℕ, ◌++◌, List}
use Rattle.qh_model.specs.headline.{Vector.Vector, Dimension.IsDimension, Hull.BodyValue, Hull.IsBody, Predicates.place, Sets.In, Sets.Members}
use Rattle.qh_model.specs.contract.{ClosedPolygons.AreClosed, IdSets.HasDistinctPoints}
use Rattle.qh_laws.specs.contract.Parts.{AreKept, IsPartFace}
use Rattle.qh_places.specs.declared.places.Places.{Places}
use Rattle.qh_parts_join.specs.contract.Kept.{AreHeld}

-- the hull of each solid set whose parts have these corners and contribute the given faces, if those close up with the faces that are gone
abbrev pub IsBodyOfJoined : List Vector → List Places → (shared : List ℕ) → (given gone : List (List ℕ)) → BodyValue → Type 0
IsBodyOfJoined pts corners shared given gone b = (ids kept : List ℕ) → HasDistinctPoints (place pts) (Members ids)
    → IsDimension (place pts) (Members ids) 3 → AreKept (place pts) ids kept → AreHeld corners shared kept
    → ((q : List ℕ) → In q given → IsPartFace (place pts) ids kept q) → AreClosed (given ++ gone) → IsBody (place pts) (Members ids) b
