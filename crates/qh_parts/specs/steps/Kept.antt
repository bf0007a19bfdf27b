-- The ids that are kept of a set in parts.
-- This project's own.
use Rattle.{std.specs.Prelude.ℕ, std.specs.Prelude.List, std.specs.List.All, std.specs.List.flat_map, qh_model.specs.headline.Vector.Vector}
use Rattle.{qh_model.specs.headline.Predicates.place, qh_model.specs.headline.Sets.In, qh_laws.specs.contract.Parts.AreKept}
use Rattle.qh_parts_join.specs.{contract.Parts.ids_in, contract.Parts.IsPartOf, contract.Parts.KeepsCorners, declared.parts.Part.Part}

-- the parts' ids are in the set, and their corners have its hull
pub record HaveKept (parts : List Part) (shared ids : List ℕ) : Type 0 where
  pub kept : List ℕ
  pub corners : KeepsCorners parts shared kept
  pub inside : (l : ℕ) → In l (flat_map ids_in parts) → In l ids
  pub stand : (pts : List Vector) → All (IsPartOf pts shared) parts → AreKept (place pts) ids kept
