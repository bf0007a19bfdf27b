-- Faces whose corners are distinct ids name themselves.
use Rattle.qh_model.proofs.Common.{ℕ, ◌<◌, arith, All, List, [], get_or, length, refl, subst, Vector, In}
use Rattle.{qh_model.proofs.Members.All-In, qh_model.proofs.Members.In-get_or, qh_check.specs.contract.Naming.AreNamed}
use Rattle.qh_check.specs.{contract.Naming.AreNamedFaces, contract.Naming.IsNamed, steps.OwnIndices.AreAllIndices, steps.OwnIndices.AreSamePoints}

-- each face is its own renamed face
pub own_faces : (pts : List Vector) (ids : List ℕ) (named : List Vector) (faces : List (List ℕ)) → AreAllIndices ids (length pts) → AreSamePoints pts named
    → ((k : ℕ) → k < length faces → All (λ i. i < length pts) (get_or faces k [])) → AreNamedFaces pts ids named faces faces
own_faces pts ids named faces all same low = record { count = refl; each = λ k l. own (get_or faces k []) (low k l) }
  where
    itself : (i : ℕ) → i < length pts → IsNamed pts ids named i i
    itself i l = (
      let e = same.size in omega (arith, e, l),
      (subst (λ (x : ℕ). In x ids) (all.each i l) (In-get_or ids i 0 (omega (arith, all.size, l))), same.each i l),
    )

    own : (face : List ℕ) → All (λ i. i < length pts) face → AreNamed pts ids named face face
    own face below = record {
      count = refl;
      each = λ k l. itself (get_or face k 0) (All-In (λ i. i < length pts) face (get_or face k 0) below (In-get_or face k 0 l));
    }
