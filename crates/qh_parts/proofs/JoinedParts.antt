-- The faces that parts of a set contribute, and those between them, are those of its hull.
use Rattle.qh_model.proofs.Common.{ℕ, ◌<◌, List, All, length, map, IsPermutation-append_left, IsPermutation-sym, IsPermutation, IsIdSet, Vector, BodyValue}
use Rattle.qh_model.proofs.{Common.IsBody, Common.place, Common.Members, Members.in_permutation}
use Rattle.{qh_bodies.proofs.StepCounts.closed_permuted, qh_parts_join.specs.contract.Parts.IsPartOf}
use Rattle.qh_parts_join.{specs.contract.Kept.places_of, specs.contract.Joined.IsBodyOfJoined, specs.declared.parts.Part.Part, proofs.OwnCorners.corners_held}
use Rattle.qh_parts.{specs.steps.Given.AreGivenOf, specs.steps.Kept.HaveKept, proofs.Divided.is_solid}

module _ (pts : List Vector) (shared : List ℕ) (parts : List Part) (gone : List (List ℕ)) where
  -- the contributions of parts are the same in any order
  pub given_in_any_order : (faces merged : List (List ℕ)) → IsPermutation faces merged → AreGivenOf pts shared parts faces gone
      → AreGivenOf pts shared parts merged gone
  given_in_any_order faces merged same given = (
    λ ids kept d inside keeps q m. given.0 ids kept d inside keeps q (in_permutation _ _ (IsPermutation-sym _ _ same) q m),
    λ ids d inside. closed_permuted _ _ (IsPermutation-append_left gone _ _ same) (given.1 ids d inside),
  )

  pub body_of_parts : (ids : List ℕ) (faces : List (List ℕ)) (b : BodyValue) → All (IsPartOf pts shared) parts → 0 < length parts
      → HaveKept parts shared ids → AreGivenOf pts shared parts faces gone → IsBodyOfJoined pts (map places_of parts) shared faces gone b
      → IsIdSet pts ids → IsBody (place pts) (Members ids) b
  body_of_parts ids faces b are some k given joined set =
      joined ids k.kept set.distinct (is_solid pts shared ids parts are some k.inside) (k.stand pts are)
      (corners_held pts shared parts are k.kept k.corners) (given.0 ids k.kept set.distinct k.inside k.corners) (given.1 ids set.distinct k.inside)
