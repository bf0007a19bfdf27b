-- The corners of parts include all extreme ids.
use Rattle.qh_model.proofs.Common.{ℕ, ◌⊎◌, inl, inr, List, All, ◌↔◌, flat_map, surface_of, Vector, place, In, Members, Extreme}
use Rattle.qh_model.proofs.{Members.All-In, lists.Joined.in_flat_map, lists.Joined.of_flat_map}
use Rattle.{qh_surface.specs.contract.NamedMeshes.named, qh_laws.specs.contract.Parts.AreKept, qh_laws.proofs.Parts.extremes_are_kept}
use Rattle.qh_parts_join.specs.{contract.Parts.ids_in, contract.Parts.own_in, contract.Parts.IsPartOf, declared.parts.Part.Part}

module _ (pts : List Vector) (ids shared kept : List ℕ) (parts : List Part) (are : All (IsPartOf pts shared) parts)
    (all : (l : ℕ) → In l (flat_map ids_in parts) ↔ In l ids) (some : (l : ℕ) → In l shared → In l ids)
    (members : (l : ℕ) → In l kept ↔ (In l (flat_map own_in parts) ⊎ In l shared)) where
  part : (p : Part) → In p parts → IsPartOf pts shared p
  part p i = All-In (IsPartOf pts shared) parts p are i

  -- the ids of a part are ids of the set
  pub part_inside : (p : Part) → In p parts → (l : ℕ) → In l p.ids.items → In l ids
  part_inside p i l m = (all l).0 (in_flat_map ids_in parts p l i m)

  inside : (l : ℕ) → In l kept → In l ids
  inside l m = elim ((members l).0 m) [
    | inr s ↦ some l s
    | inl o ↦ (let (p, i, h) = of_flat_map own_in parts l o in part_inside p i l ((part p i).inside l h))
  ]

  extremes : (l : ℕ) → Extreme (place pts) (Members ids) l → In l kept
  extremes l x =
      let (p, i, h) = of_flat_map ids_in parts l ((all l).1 x.0) in
      let (f, live, k) = extremes_are_kept (place pts) ids p.ids.items (surface_of (named p.surface)) (part p i).finished (part_inside p i) l x h in
      (members l).1 (elim ((part p i).corners f live l k) [ inl o ↦ inl (in_flat_map own_in parts p l i o) | inr s ↦ inr s ])

  pub are_kept : AreKept (place pts) ids kept
  are_kept = record { inside = inside; extremes = extremes }
