-- A set that is divided into parts.
use Rattle.qh_model.proofs.Common.{ℕ, ◌<◌, inl, refl, arith, List, [], ◌∷◌, All, length, flat_map, surface_of, Vector, place, In, Members, IsDimension}
use Rattle.qh_model.proofs.{Members.All-In, lists.Joined.in_flat_map}
use Rattle.{qh_surface.specs.contract.NamedMeshes.named, qh_laws.proofs.Joined.part_is_solid}
use Rattle.qh_parts_join.specs.{contract.Parts.ids_in, contract.Parts.IsPartOf, declared.parts.Part.Part}

-- a divided set is solid, as a part of it is
pub is_solid : (pts : List Vector) (shared ids : List ℕ) (parts : List Part) → All (IsPartOf pts shared) parts → 0 < length parts
    → ((l : ℕ) → In l (flat_map ids_in parts) → In l ids) → IsDimension (place pts) (Members ids) 3
is_solid pts shared ids [] are some inside = absurd (omega arith)
is_solid pts shared ids (p ∷ ps) are some inside =
    part_is_solid (place pts) ids p.ids.items (surface_of (named p.surface)) (All-In (IsPartOf pts shared) (p ∷ ps) p are (inl refl)).finished
    (λ l i. inside l (in_flat_map ids_in (p ∷ ps) p l (inl refl) i))
