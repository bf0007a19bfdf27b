-- The tally of polygons does not depend on their order.
use Rattle.qh_model.proofs.Common.{◌∙◌, ℕ, List, length, sym, IsPermutation, IsPermutation-sym, sum_by-IsPermutation, In}
use Rattle.std.proofs.lemmas.List.Concat.{length-flat_map}
use Rattle.qh_model.proofs.{Members.in_permutation, lists.Joined.in_flat_map, lists.Joined.of_flat_map}
use Rattle.qh_bodies.specs.{contract.SolidEdges.ups, contract.Tallies.all_members, contract.Tallies.IsTally, declared.tallies.Tally.Tally}

pub tally_permuted : (ps qs : List (List ℕ)) (tally : Tally) → IsPermutation ps qs → IsTally ps tally → IsTally qs tally
tally_permuted ps qs tally same t = record {
  rising = t.rising;
  members = λ i. (λ m. moved ps qs same i ((t.members i).0 m), λ m. (t.members i).1 (moved qs ps (IsPermutation-sym ps qs same) i m));
  edges =
      t.edges ∙ length-flat_map ups ps ∙ sym (sum_by-IsPermutation (λ (q : List ℕ). length (ups q)) ps qs same)
      ∙ sym (length-flat_map ups qs);
}
  where
    moved : (ps qs : List (List ℕ)) → IsPermutation ps qs → (i : ℕ) → In i (all_members ps) → In i (all_members qs)
    moved ps qs same i m =
        let r = of_flat_map (λ q. q) ps i m in in_flat_map (λ q. q) qs r.0 i (in_permutation ps qs same r.0 r.1) r.2
