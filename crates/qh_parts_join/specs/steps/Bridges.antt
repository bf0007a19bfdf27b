-- Polygons that are faces of the kept ids of a set.
-- This project's own.
use Rattle.qh_model.specs.{contract.ClosedPolygons.IsFace, contract.IdSets.HasDistinctPoints, headline.Predicates.place, headline.Sets.Members}
use Rattle.{qh_model.specs.headline.Vector.Vector, qh_parts_join.specs.contract.Kept.AreHeld, qh_parts_join.specs.declared.join.near_parts.NearPart.NearPart}
use Rattle.{qh_places.specs.declared.places.Places.Places, std.specs.Prelude.ℕ, std.specs.Prelude.List}

-- the places near planes
abbrev pub places_in : NearPart → Places
places_in n = n.places.now

-- q is a face of the kept ids
abbrev pub IsBridge : List Vector → List Places → (shared q : List ℕ) → Type 0
IsBridge pts corners shared q = (kept : List ℕ) → AreHeld corners shared kept → HasDistinctPoints (place pts) (Members kept)
    → IsFace (place pts) (Members kept) q
