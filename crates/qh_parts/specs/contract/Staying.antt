-- The faces of the parts of a set that stay.
-- This project's own.
use Rattle.std.specs.Prelude.{ℕ, ◌++◌, List, Bool}
use Rattle.std.specs.List.{flat_map}
use Rattle.qh_model.specs.{contract.ClosedPolygons.AreClosed, contract.IdSets.HasDistinctPoints, contract.StoredSurface.surface_of, headline.Vector.Vector}
use Rattle.qh_model.specs.headline.{Predicates.place, Sets.In, Sets.Members}
use Rattle.qh_surface.specs.contract.NamedMeshes.{named}
use Rattle.qh_laws.specs.contract.Seam.{IsSeam, IsStrictRing}
use Rattle.qh_parts_join.specs.{contract.Parts.ids_in, contract.Parts.KeepsCorners, declared.parts.Part.Part}

-- a part whose marked facets stay when the corners of the other parts are added
pub record IsStayingPart (pts : List Vector) (shared : List ℕ) (parts : List Part) (p : Part) (stay : ℕ → Bool) : Type 0 where
  pub seam : (kept : List ℕ) → KeepsCorners parts shared kept → IsSeam (place pts) (surface_of (named p.surface)) stay (Members kept)
  pub ring : (kept : List ℕ) → KeepsCorners parts shared kept
      → IsStrictRing (place pts) kept p.ids.items (surface_of (named p.surface)) stay

-- if the points of a set that has the ids of all parts are distinct, the polygons of parts that stay and those that go close up together
abbrev pub CloseUp : List Vector → List Part → (stay go : List (List ℕ)) → Type 0
CloseUp pts parts stay go = (ids : List ℕ) → HasDistinctPoints (place pts) (Members ids)
    → ((l : ℕ) → In l (flat_map ids_in parts) → In l ids) → AreClosed (stay ++ go)
