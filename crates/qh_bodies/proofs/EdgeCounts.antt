-- The number of edges of a solid: exactly one face has the step from the lower id of an edge to the higher one.
use Rattle.qh_model.proofs.Common.{◌≡◌, inl, inr, ℕ, ◌<◌, List, [], ◌∷◌, sym, subst, refl, arith, nat_tests, flat_map, ◌↔◌, HasDistinctPoints, Vector, In, Once}
use Rattle.qh_model.proofs.Common.{Members, IsDimension, FollowsAlong, Follows, AreFaces, IsEdge, IsEdgeCount}
use Rattle.qh_model.proofs.Common.{◌+◌, ◌++◌, flat_map-append, length-append}
use Rattle.qh_model.proofs.{lists.Joined.once_append, lists.Joined.in_flat_map, lists.Joined.of_flat_map, polygons.Neighbours.along_members}
use Rattle.qh_model.proofs.polygons.{Edges.one_face_a_step, OtherFace.other_face}
use Rattle.qh_bodies.specs.contract.SolidEdges.{ups_along, ups, all_edges_up}

-- the number of steps up of two lists of polygons
pub edges_append : (ps qs : List (List ℕ)) → all_edges_up (ps ++ qs) ≡ all_edges_up ps + all_edges_up qs
edges_append ps qs = rw (flat_map-append ups ps qs) (length-append (flat_map ups ps) (flat_map ups qs))

abbrev Pair : Type 0
Pair = ℕ × ℕ

abbrev Has : ℕ → ℕ → List Pair → Type 0
Has u v ps = In {X = Pair} (u, v) ps

-- the steps up on a path
on_along : (u v t : ℕ) (r : List ℕ) (e : ℕ) → Has u v (ups_along t r e) ↔ ((u < v) × FollowsAlong u v t r e)
on_along u v t [] e = (λ i. grind (arith, nat_tests, i), λ h. grind (arith, nat_tests, h))
on_along u v t (w ∷ r) e =
    let k = on_along u v w r e in (λ i. grind (arith, nat_tests, i, k), λ h. grind (arith, nat_tests, h, k))

-- the steps up of a polygon
in_ups : (u v : ℕ) (q : List ℕ) → Has u v (ups q) ↔ ((u < v) × Follows u v q)
in_ups u v [] = (λ i. absurd i, λ h. h.1)
in_ups u v (t ∷ r) = on_along u v t r t

-- each step up occurs once
once_along : (t : ℕ) (r : List ℕ) (e : ℕ) → Once (t ∷ r) → Once (ups_along t r e)
once_along t [] e o = grind arith
once_along t (w ∷ r) e o =
    let new : ¬ (Has t w (ups_along w r e)) = (λ i. o.0 (along_members t w w r e ((on_along t w w r e).0 i).1).0) in
    let others = once_along w r e o.1 in grind (arith, new, others)

once_ups : (q : List ℕ) → Once q → Once (ups q)
once_ups = grind (arith, once_along)

-- if no two polygons take the same step, each step up occurs once
all_once : (qs : List (List ℕ)) → Once qs → ((q : List ℕ) → In q qs → Once q)
    → ((p q : List ℕ) → In p qs → In q qs → (u v : ℕ) → Follows u v p → Follows u v q → p ≡ q) → Once (flat_map ups qs)
all_once [] o each one = tt
all_once (q ∷ qs) o each one = once_append (ups q) (flat_map ups qs) (once_ups q (each q (inl refl)))
    (all_once qs o.1 (λ p i. each p (inr i)) (λ p r i j. one p r (inr i) (inr j))) apart
  where
    apart : (x : Pair) → In x (ups q) → In x (flat_map ups qs) → ⊥
    apart (u, v) i j = let r = of_flat_map ups qs (u, v) j in
        o.0 (subst (λ (p : List ℕ). In p qs)
        (sym (one q r.0 (inl refl) (inr r.1) u v ((in_ups u v q).0 i).1 ((in_ups u v r.0).0 r.2).1)) r.1)

-- the faces of a solid have an edge for each step up
pub edges_of_faces : (at : ℕ → Vector) (ids : List ℕ) (qs : List (List ℕ)) → HasDistinctPoints at (Members ids)
    → IsDimension at (Members ids) 3 → AreFaces at (Members ids) qs → Once qs → IsEdgeCount qs (all_edges_up qs)
edges_of_faces at ids qs d solid faces once = record {
  list = flat_map ups qs;
  once = all_once qs once (λ q i. (faces.only q i).4.once) (one_face_a_step at ids qs d faces);
  all = λ u v. (λ i. (let r = of_flat_map ups qs (u, v) i in let h = (in_ups u v r.0).0 r.2 in (h.0, (r.0, r.1, inl h.1))), to u v);
  count = refl;
}
  where
    -- if a face has the step down along an edge, another has the step up
    to : (u v : ℕ) → IsEdge qs u v → Has u v (flat_map ups qs)
    to u v (h, (q, i, inl f)) = in_flat_map ups qs q (u, v) i ((in_ups u v q).1 (h, f))
    to u v (h, (q, i, inr f)) = let p = other_face at ids qs d solid faces q i v u f in
        in_flat_map ups qs p.0 (u, v) p.1 ((in_ups u v p.0).1 (h, p.2))
