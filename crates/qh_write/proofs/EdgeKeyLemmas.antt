-- Edges counted by numbers of pairs: the added numbers, and the number of different ones.
use Rattle.qh_model.proofs.Common.{◌≡◌, ◌≢◌, ◌∙◌, ℕ, ◌+◌, ◌<◌, List, [], ◌∷◌, ◌++◌, length}
use Rattle.qh_model.proofs.Common.{ap, sym, refl, subst, inl, inr, map, drop, get_or, append_assoc, min, max, IsPermutation, Bool, true, false, cond, eqb-true}
use Rattle.qh_model.proofs.Common.{nat_cmp, eqb-false, flat_map-append, length-map, IsPermutation-sym, IsStrictlyIncreasing-dedup, flat_map, AllByRecursion}
use Rattle.qh_model.proofs.Common.{◌==◌, ◌↔◌, eqb, steps_along, steps_round, packed, fan, fans, pairs_along, pairs_round, edge_count, In, Once, append-nil}
use Rattle.qh_model.proofs.{Members.to_contains, Members.of_contains, Members.in_permutation, Members.rising_once, Members.every_at, PackedPairs.packed-same}
use Rattle.qh_model.proofs.lists.{Images.in_map, Images.of_map, Joined.in_flat_map, Joined.of_flat_map, OnceEach.once_length}
use Rattle.qh_model.proofs.polygons.EdgeCounts.{distinct, length-distinct, of_distinct, in_distinct, once_distinct}
use Rattle.{qh_model.specs.declared.keys.packed.TheConstants.HALF_ROOM, qh_write.proofs.FanLemmas.drop_next}
use Rattle.qh_write.specs.steps.EdgeKeys.{pair_key, HasRoom, AddsPairs, Completes, pairs_of}
use Rattle.std.{proofs.lemmas.List.Kept.Contains-dedup_nat, proofs.lemmas.List.Kept.Contains-from_dedup, specs.List.dedup, specs.List.Sorted.IsSorted}

-- ---- adding
-- nothing added
pub adds_none : (keys : List ℕ) → AddsPairs [] keys keys
adds_none keys = record { keys = sym (append-nil keys); told = tt }

-- some pairs and then others
pub adds_then : (ps qs : List (ℕ × ℕ)) (a b c : List ℕ) → AddsPairs ps a b → AddsPairs qs b c → AddsPairs (ps ++ qs) a c
adds_then ps qs a b c s t = record {
  keys = t.keys ∙ ap (λ x. x ++ flat_map pair_key qs) s.keys ∙ append_assoc a (flat_map pair_key ps) (flat_map pair_key qs)
      ∙ ap (λ x. a ++ x) (sym (flat_map-append pair_key ps qs));
  told = both ps qs s.told t.told;
}
  where
    both : (ps qs : List (ℕ × ℕ)) → AllByRecursion HasRoom ps → AllByRecursion HasRoom qs → AllByRecursion HasRoom (ps ++ qs)
    both [] qs h k = k
    both (p ∷ ps) qs h k = (h.0, both ps qs h.1 k)

-- a part of the remaining pairs is added
pub completes_more : (one left left' all : List (ℕ × ℕ)) (now next start : List ℕ) → left ≡ one ++ left'
    → AddsPairs one now next → Completes left all now start → Completes left' all next start
completes_more one left left' all now next start e s h end t = h end (subst (λ x. AddsPairs x now end) (sym e) (adds_then one left' now next end s t))

-- the neighbours of the sides of a face, the lower first
abbrev pub pairs_along_sides : List (ℕ × ℕ) → List (ℕ × ℕ)
pairs_along_sides sides = map (λ s. (min s.0 s.1, max s.0 s.1)) sides

pub pairs_of_sides : (q : List ℕ) → pairs_along_sides (steps_round q) ≡ pairs_round q
pairs_of_sides [] = refl
pairs_of_sides (t ∷ r) = along t r t
  where
    along : (t : ℕ) (r : List ℕ) (e : ℕ) → pairs_along_sides (steps_along t r e) ≡ pairs_along t r e
    along t [] e = refl
    along t (w ∷ r) e = ap (λ ps. (min t w, max t w) ∷ ps) (along w r e)

-- the remaining fans
pub fans_left : (qs : List (List ℕ)) (i : ℕ) (q : List ℕ) → i < length qs → q ≡ get_or qs i q
    → pairs_of (fans (drop i qs)) ≡ pairs_of (fan q) ++ pairs_of (fans (drop (i + 1) qs))
fans_left qs i q h e = ap (λ t. pairs_of (fans t)) (drop_next qs i q h e) ∙ flat_map-append pairs_round (fan q) (fans (drop (i + 1) qs))

-- ---- counting
-- the number of a pair of two different ids
abbrev code : ℕ × ℕ → ℕ
code p = packed p.0 p.1

-- the number of a pair determines it
of_key : (u v z : ℕ) → In z (pair_key (u, v)) → (u ≢ v) × (z ≡ code (u, v))
of_key u v z m = by_test (u == v) refl m
  where
    by_test : (b : Bool) → (u == v) ≡ b → In z (cond b [] (packed u v ∷ [])) → (u ≢ v) × (z ≡ code (u, v))
    by_test true p m = absurd m
    by_test false p (inl e) = (eqb-false u v p, e)
    by_test false p (inr n) = absurd n

in_key : (u v : ℕ) → u ≢ v → In (code (u, v)) (pair_key (u, v))
in_key u v d = by_test (u == v) refl
  where
    by_test : (b : Bool) → (u == v) ≡ b → In (code (u, v)) (cond b [] (packed u v ∷ []))
    by_test true p = absurd (d (eqb-true u v p))
    by_test false p = inl refl

-- pairs with different numbers occur once if their numbers do
once_codes : (ps : List (ℕ × ℕ)) → ((u v : ℕ) → In (u, v) ps → v < HALF_ROOM) → Once ps → Once (map code ps)
once_codes [] small o = tt
once_codes ((a, b) ∷ ps) small o = ((λ m. from_witness (of_map code ps (code (a, b)) m)), once_codes ps (λ u v i. small u v (inr i)) o.1)
  where
    from_witness : (x : ℕ × ℕ) × In x ps × (code (a, b) ≡ code x) → ⊥
    from_witness ((u, v), i, e) = let s = packed-same a b u v (small a b (inl refl)) (small u v (inr i)) e in
        o.0 (subst (λ x. In (x, b) ps) (sym s.0) (subst (λ y. In (u, y) ps) (sym s.1) i))

-- the number of different keys is the number of edges
pub edges_by_keys : (faces : List (List ℕ)) (keys sorted : List ℕ) → AddsPairs (pairs_of faces) [] keys → IsPermutation keys sorted → IsSorted nat_cmp sorted
    → length (dedup eqb sorted) ≡ edge_count faces
edges_by_keys faces keys sorted added same rising =
    let small : (u v : ℕ) → In (u, v) (distinct ps) → v < HALF_ROOM = λ u v m. every_at HasRoom ps (u, v) added.told (of_distinct ps u v m).0 in
    once_length (dedup eqb sorted) (map code (distinct ps)) (rising_once (dedup eqb sorted) (IsStrictlyIncreasing-dedup sorted rising))
    (once_codes (distinct ps) small (once_distinct ps)) members ∙ length-map (distinct ps) code ∙ length-distinct ps
  where
    ps : List (ℕ × ℕ)
    ps = pairs_of faces

    there : (z : ℕ) → (p : ℕ × ℕ) × In p ps × In z (pair_key p) → In z (map code (distinct ps))
    there z ((u, v), i, h) = let k = of_key u v z h in
        subst (λ x. In x (map code (distinct ps))) (sym k.1) (in_map code (distinct ps) (u, v) (in_distinct ps u v i k.0))

    back : (z : ℕ) → (p : ℕ × ℕ) × In p (distinct ps) × (z ≡ code p) → In z keys
    back z ((u, v), i, e) = let r = of_distinct ps u v i in
        rw added.keys (rw e (in_flat_map pair_key ps (u, v) (code (u, v)) r.0 (in_key u v r.1)))

    members : (z : ℕ) → In z (dedup eqb sorted) ↔ In z (map code (distinct ps))
    members z = (
      λ m. there z (of_flat_map pair_key ps z (rw added.keys at
          (in_permutation sorted keys (IsPermutation-sym keys sorted same) z
          (of_contains sorted z (Contains-from_dedup eqb sorted z (to_contains (dedup eqb sorted) z m)))))),
      λ m. of_contains (dedup eqb sorted) z
          (Contains-dedup_nat sorted z (to_contains sorted z (in_permutation keys sorted same z (back z (of_map code (distinct ps) z m))))),
    )
