-- The kept ids of a set, as the places of its parts hold them.
use Rattle.qh_model.proofs.Common.{ℕ, ◌<◌, List, ◌++◌, All, length, All-append, ◌↔◌, flat_map, AreIndices, Vector, In}
use Rattle.qh_model.proofs.{Members.All-In, Members.All-of, lists.Joined.in_append, lists.Joined.of_append, lists.Joined.of_flat_map}
use Rattle.{qh_pred.specs.contract.Planes.PlaneValue, qh_places.specs.contract.Places.AreLevel, qh_places.specs.declared.places.Places.Places}
use Rattle.qh_parts_join.specs.contract.Kept.{held_in, ArePlaced, AreHeld}

module _ (corners : List Places) (shared : List ℕ) where
  -- the ids that the places hold and the shared ids are the kept ids
  pub held_kept : (kept : List ℕ) → AreHeld corners shared kept → (l : ℕ) → In l (flat_map held_in corners ++ shared) ↔ In l kept
  held_kept kept keeps l =
      (λ m. (keeps l).1 (of_append (flat_map held_in corners) shared l m), λ m. in_append (flat_map held_in corners) shared l ((keeps l).0 m))

  module _ (pts : List Vector) (placed : All (ArePlaced pts) corners) (ok : AreIndices pts shared) where
    -- all kept ids are indices
    pub kept_indices : AreIndices pts (flat_map held_in corners ++ shared)
    kept_indices = All-append (λ i. i < length pts) (flat_map held_in corners) shared (All-of (λ i. i < length pts) _ own) ok
      where
        own : (l : ℕ) → In l (flat_map held_in corners) → l < length pts
        own l i = let (p, m, h) = of_flat_map held_in corners l i in (All-In (ArePlaced pts) corners p placed m).indices l h

    -- the kept ids in a plane are indices
    pub level_indices : (plane : PlaneValue) (level : List ℕ)
        → ((kept : List ℕ) → AreHeld corners shared kept → AreLevel pts kept plane level) → AreIndices pts level
    level_indices plane level is = All-of (λ i. i < length pts) level (λ l m.
        let all = flat_map held_in corners ++ shared in
        let keeps : AreHeld corners shared all = λ i. (of_append (flat_map held_in corners) shared i, in_append (flat_map held_in corners) shared i) in
        All-In (λ i. i < length pts) all l kept_indices (((is all keeps).members l).0 m).0)
