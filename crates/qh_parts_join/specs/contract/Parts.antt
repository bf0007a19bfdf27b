-- Parts of a set, as the program stores them.
-- This project's own.
use Rattle.std.specs.Prelude.{ℕ, ◌⊎◌, ◌↔◌, ◌<◌, List, length}
use Rattle.std.specs.List.{flat_map, Sorted.IsStrictlyIncreasing}
use Rattle.qh_model.specs.{contract.FinishedSurface.IsFinished, contract.Surface.IsCorner, contract.StoredSurface.surface_of, headline.Vector.Vector}
use Rattle.qh_model.specs.headline.{Predicates.place, Sets.In}
use Rattle.qh_surface.specs.contract.NamedMeshes.{named, IsNamedMesh}
use Rattle.qh_places.specs.contract.Places.{ArePlaces}
use Rattle.qh_parts_join.specs.declared.parts.Part.{Part}

-- the ids of a part
abbrev pub ids_in : Part → List ℕ
ids_in p = p.ids.items

-- the corners of a part that are not shared
abbrev pub own_in : Part → List ℕ
own_in p = p.own.items

-- the kept ids are the corners of all parts and the shared ids
abbrev pub KeepsCorners : List Part → (shared kept : List ℕ) → Type 0
KeepsCorners parts shared kept = (l : ℕ) → In l kept ↔ (In l (flat_map own_in parts) ⊎ In l shared)

-- rising ids that include the shared ones, with their finished mesh, whose corners are own or shared ids; the own ones are stored by blocks
pub record IsPartOf (pts : List Vector) (shared : List ℕ) (p : Part) : Type 0 where
  pub indices : (l : ℕ) → In l p.ids.items → l < length pts
  pub rising : IsStrictlyIncreasing p.ids.items
  pub mesh : IsNamedMesh pts p.surface
  pub finished : IsFinished (place pts) p.ids.items (surface_of (named p.surface))
  pub corners : let m = surface_of (named p.surface) in (f : ℕ) → In f m.live → (l : ℕ) → IsCorner m f l → In l p.own.items ⊎ In l shared
  pub inside : (l : ℕ) → In l p.own.items → In l p.ids.items
  pub has_shared : (l : ℕ) → In l shared → In l p.ids.items
  pub places : ArePlaces pts p.own.items p.places
