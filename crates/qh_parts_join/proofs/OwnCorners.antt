-- The own corners of parts, as their places hold them.
use Rattle.qh_model.proofs.Common.{ℕ, ◌⊎◌, inl, inr, List, All, map, sym, subst, flat_map, Vector, In}
use Rattle.qh_model.proofs.{Members.All-In, Members.All-of, lists.Joined.in_flat_map, lists.Joined.of_flat_map, lists.Images.in_map, lists.Images.of_map}
use Rattle.qh_parts_join.specs.contract.Parts.{own_in, KeepsCorners, IsPartOf}
use Rattle.qh_parts_join.specs.{contract.Kept.held_in, contract.Kept.places_of, contract.Kept.ArePlaced, contract.Kept.AreHeld, declared.parts.Part.Part}

module _ (pts : List Vector) (shared : List ℕ) (parts : List Part) (are : All (IsPartOf pts shared) parts) where
  -- the places of parts have the points of their ids
  pub all_placed : All (ArePlaced pts) (map places_of parts)
  all_placed = All-of (ArePlaced pts) (map places_of parts) (λ h m.
      let (p, i, e) = of_map places_of parts h m in let z = All-In (IsPartOf pts shared) parts p are i in
      subst (ArePlaced pts) (sym e) (record { indices = λ l j. z.indices l (z.inside l ((z.places.same l).0 j)); points = z.places.points }))

  -- the kept ids of the parts are those that their places hold
  pub corners_held : (kept : List ℕ) → KeepsCorners parts shared kept → AreHeld (map places_of parts) shared kept
  corners_held kept keeps l = (λ m. there ((keeps l).0 m), λ m. (keeps l).1 (back m))
    where
      there : In l (flat_map own_in parts) ⊎ In l shared → In l (flat_map held_in (map places_of parts)) ⊎ In l shared
      there (inr s) = inr s
      there (inl o) =
          let (p, k, j) = of_flat_map own_in parts l o in
          let own = ((All-In (IsPartOf pts shared) parts p are k).places.same l).1 j in
          inl (in_flat_map held_in (map places_of parts) (places_of p) l (in_map places_of parts p k) own)

      back : In l (flat_map held_in (map places_of parts)) ⊎ In l shared → In l (flat_map own_in parts) ⊎ In l shared
      back (inr s) = inr s
      back (inl o) =
          let (h, i, j) = of_flat_map held_in (map places_of parts) l o in let (p, k, e) = of_map places_of parts h i in
          let own = ((All-In (IsPartOf pts shared) parts p are k).places.same l).0 (subst (λ q. In l (held_in q)) e j) in
          inl (in_flat_map own_in parts p l k own)
