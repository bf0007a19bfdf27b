-- The kept ids of a set in parts: the ids that the places of each part hold, and the shared ids.
-- This project's own.
use Rattle.std.specs.Prelude.{ℕ, ◌≡◌, ◌<◌, ◌⊎◌, ◌↔◌, List, length, map}
use Rattle.std.specs.List.{flat_map}
use Rattle.qh_model.specs.headline.{Vector.Vector, Predicates.place, Sets.In}
use Rattle.qh_places.specs.declared.places.Places.{Places}
use Rattle.qh_parts_join.specs.declared.parts.Part.{Part}

-- the places of a part
abbrev pub places_of : Part → Places
places_of p = p.places

-- the ids that places hold
abbrev pub held_in : Places → List ℕ
held_in p = p.ids.items

-- the ids that places hold are indices, and the places have their points
pub record ArePlaced (pts : List Vector) (p : Places) : Type 0 where
  pub indices : (l : ℕ) → In l p.ids.items → l < length pts
  pub points : p.points.items ≡ map (place pts) p.ids.items

-- the kept ids are the ids that places hold, and the shared ids
abbrev pub AreHeld : List Places → (shared kept : List ℕ) → Type 0
AreHeld corners shared kept = (l : ℕ) → In l kept ↔ (In l (flat_map held_in corners) ⊎ In l shared)
