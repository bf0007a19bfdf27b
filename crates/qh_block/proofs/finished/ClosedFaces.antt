-- The faces of a finished mesh close up, whatever the order in which they were gathered.
use Rattle.qh_block.{proofs.finished.SolidBodies.closed, specs.steps.Faces.AreFacetFaces}
use Rattle.qh_bodies.proofs.{FaceOrder.apart_permuted, FaceOrder.ordered_rise, MergedFaces.UpTo, MergedFaces.merged_ordered, MergedFaces.merged_permutation}
use Rattle.qh_bodies.{proofs.StepCounts.closed_permuted, specs.steps.FaceKeys.merged}
use Rattle.qh_model.proofs.Common.{ℕ, List, [], ◌∷◌, IsPermutation, IsPermutation-refl, IsPermutation-sym, IsPermutation-trans, AreClosed, IsIdSet, IsFinished}
use Rattle.qh_model.proofs.{Common.StoredFacet, Common.surface_of, Common.Vector, Common.place, Common.Members, Members.in_permutation, lists.Ordered.Ordered}
use Rattle.std.proofs.lemmas.List.Sorted.{IsPermutation-cons}

-- polygons in order
in_order : List (List ℕ) → List (List ℕ)
in_order [] = []
in_order (q ∷ qs) = merged (q ∷ []) (in_order qs)

same_polygons : (qs : List (List ℕ)) → IsPermutation qs (in_order qs)
unfolding in_order
same_polygons [] = IsPermutation-refl []
same_polygons (q ∷ qs) = IsPermutation-trans _ _ _ (IsPermutation-cons q _ _ (same_polygons qs)) (merged_permutation (q ∷ []) (in_order qs))

are_ordered : (qs : List (List ℕ)) → Ordered UpTo (in_order qs)
unfolding in_order
are_ordered [] = tt
are_ordered (q ∷ qs) = merged_ordered (q ∷ []) (in_order qs) ((λ p i. absurd i), tt) (are_ordered qs)

pub facet_faces_close : (pts : List Vector) (ids : List ℕ) (fs : List StoredFacet) → IsIdSet pts ids
    → IsFinished (place pts) ids (surface_of fs) → (qs : List (List ℕ)) → AreFacetFaces (place pts) (Members ids) fs qs → AreClosed qs
facet_faces_close pts ids fs set z qs faces =
    let same = same_polygons qs in let back = IsPermutation-sym _ _ same in
    let rising = ordered_rise (in_order qs) (are_ordered qs) (apart_permuted qs _ same faces.apart) in
    closed_permuted _ _ back (closed pts ids fs set z qs faces (in_order qs) rising (λ q. (in_permutation _ _ back q, in_permutation _ _ same q))).closed
