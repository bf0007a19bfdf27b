-- The number of edges of faces, as a function, and the list of distinct pairs that it counts.
use Rattle.qh_model.proofs.Common.{ℕ, ◌≡◌, ◌≢◌, ◌<◌, suc, List, [], ◌∷◌, ◌⊎◌, inl, inr, refl, sym, subst, ap, ◌∙◌, length, arith, Bool, true, false, cond, min}
use Rattle.qh_model.proofs.Common.{max, eqb-true, eqb-false, flat_map, list_any, ◌==◌, ◌&&◌, ◌||◌, if◌then◌else◌, pairs_along, pairs_round, FollowsAlong}
use Rattle.qh_model.proofs.Common.{Follows, IsEdge, In, Once}
use Rattle.qh_model.specs.{headline.Fan.count_pairs, laws.FanLaws.EdgesAreCounted}
use Rattle.qh_model.proofs.lists.Joined.{in_flat_map, of_flat_map}

-- ---- pairs that differ
-- true if a pair is a given one
abbrev pub is_pair : ℕ → ℕ → ℕ × ℕ → Bool
is_pair u v p = (p.0 == u) && (p.1 == v)

-- the list without pairs that occur again later, and without pairs of equal ids
abbrev pub distinct : List (ℕ × ℕ) → List (ℕ × ℕ)
distinct [] = []
distinct ((u, v) ∷ ps) = if (u == v) || list_any (λ p. (p.0 == u) && (p.1 == v)) ps then distinct ps else (u, v) ∷ distinct ps

-- the length of this list is the number of pairs counted
pub length-distinct : (ps : List (ℕ × ℕ)) → length (distinct ps) ≡ count_pairs ps
length-distinct [] = refl
length-distinct ((u, v) ∷ ps) = by_test ((u == v) || list_any (λ p. (p.0 == u) && (p.1 == v)) ps) (length-distinct ps)
  where
    by_test : (b : Bool) → length (distinct ps) ≡ count_pairs ps
        → length (cond b (distinct ps) ((u, v) ∷ distinct ps)) ≡ cond b (count_pairs ps) (suc (count_pairs ps))
    by_test true e = e
    by_test false e = ap suc e

-- the test passes for a pair in the list
found : (u v : ℕ) (ps : List (ℕ × ℕ)) → list_any (is_pair u v) ps ≡ true → In (u, v) ps
found u v [] e = cc
found u v ((a, b) ∷ ps) e = with_rest (found u v ps) (a == u) (b == v) refl refl e
  where
    with_rest : (list_any (is_pair u v) ps ≡ true → In (u, v) ps) → (s t : Bool) → (a == u) ≡ s → (b == v) ≡ t → ((s && t) || list_any (is_pair u v) ps) ≡ true
        → In (u, v) ((a, b) ∷ ps)
    with_rest rest true true p q h = subst (λ x. In (x, v) ((a, b) ∷ ps)) (eqb-true a u p) (subst (λ y. In (a, y) ((a, b) ∷ ps)) (eqb-true b v q) (inl refl))
    with_rest rest true false p q h = inr (rest h)
    with_rest rest false t p q h = inr (rest h)

-- the test fails for a pair that is not in the list
missed : (u v : ℕ) (ps : List (ℕ × ℕ)) → list_any (is_pair u v) ps ≡ false → ¬ (In (u, v) ps)
missed u v [] e m = m
missed u v ((a, b) ∷ ps) e m = with_rest (missed u v ps) (a == u) (b == v) refl refl e m
  where
    with_rest : (list_any (is_pair u v) ps ≡ false → ¬ (In (u, v) ps)) → (s t : Bool) → (a == u) ≡ s → (b == v) ≡ t
        → ((s && t) || list_any (is_pair u v) ps) ≡ false
        → ¬ (In (u, v) ((a, b) ∷ ps))
    with_rest rest true true p q h m = cc
    with_rest rest true false p q h (inl f) = eqb-false b v q (sym (ap (λ (x : ℕ × ℕ). x.1) f))
    with_rest rest true false p q h (inr m) = rest h m
    with_rest rest false t p q h (inl f) = eqb-false a u p (sym (ap (λ (x : ℕ × ℕ). x.0) f))
    with_rest rest false t p q h (inr m) = rest h m

-- the members of this list are pairs of the first list, of two different ids
pub of_distinct : (ps : List (ℕ × ℕ)) (u v : ℕ) → In (u, v) (distinct ps) → In (u, v) ps × (u ≢ v)
of_distinct [] u v m = absurd m
of_distinct ((a, b) ∷ ps) u v m = with_rest (of_distinct ps u v) (a == b) (list_any (is_pair a b) ps) refl m
  where
    later : In (u, v) ps × (u ≢ v) → In (u, v) ((a, b) ∷ ps) × (u ≢ v)
    later r = (inr r.0, r.1)

    with_rest : (In (u, v) (distinct ps) → In (u, v) ps × (u ≢ v)) → (s t : Bool) → (a == b) ≡ s
        → In (u, v) (cond (s || t) (distinct ps) ((a, b) ∷ distinct ps))
        → In (u, v) ((a, b) ∷ ps) × (u ≢ v)
    with_rest rest true t p m = later (rest m)
    with_rest rest false true p m = later (rest m)
    with_rest rest false false p (inl f) = (inl f, λ e. eqb-false a b p (sym (ap (λ (x : ℕ × ℕ). x.0) f) ∙ e ∙ ap (λ (x : ℕ × ℕ). x.1) f))
    with_rest rest false false p (inr m) = later (rest m)

-- each pair of the list with two different ids is a member
pub in_distinct : (ps : List (ℕ × ℕ)) (u v : ℕ) → In (u, v) ps → u ≢ v → In (u, v) (distinct ps)
in_distinct [] u v m d = absurd m
in_distinct ((a, b) ∷ ps) u v m d = with_rest (λ i. in_distinct ps u v i d) (a == b) (list_any (is_pair a b) ps) refl refl m
  where
    with_rest : (In (u, v) ps → In (u, v) (distinct ps)) → (s t : Bool) → (a == b) ≡ s → list_any (is_pair a b) ps ≡ t → In (u, v) ((a, b) ∷ ps)
        → In (u, v) (cond (s || t) (distinct ps) ((a, b) ∷ distinct ps))
    with_rest rest true t p q (inl f) = absurd (d (ap (λ (x : ℕ × ℕ). x.0) f ∙ eqb-true a b p ∙ sym (ap (λ (x : ℕ × ℕ). x.1) f)))
    with_rest rest true t p q (inr m) = rest m
    with_rest rest false true p q (inl f) = rest (subst (λ x. In x ps) (sym f) (found a b ps q))
    with_rest rest false true p q (inr m) = rest m
    with_rest rest false false p q (inl f) = inl f
    with_rest rest false false p q (inr m) = inr (rest m)

-- each pair occurs once
pub once_distinct : (ps : List (ℕ × ℕ)) → Once (distinct ps)
once_distinct [] = tt
once_distinct ((a, b) ∷ ps) = with_rest (once_distinct ps) (a == b) (list_any (is_pair a b) ps) refl
  where
    with_rest : Once (distinct ps) → (s t : Bool) → list_any (is_pair a b) ps ≡ t → Once (cond (s || t) (distinct ps) ((a, b) ∷ distinct ps))
    with_rest rest true t q = rest
    with_rest rest false true q = rest
    with_rest rest false false q = ((λ m. missed a b ps q (of_distinct ps a b m).0), rest)

-- ---- pairs of neighbours
-- neighbours on a path, with the lower id first
in_along : (u v t : ℕ) (r : List ℕ) (e : ℕ) → FollowsAlong u v t r e → In (min u v, max u v) (pairs_along t r e)
in_along u v t [] e (p, q) = inl (cc (p, q))
in_along u v t (w ∷ r) e (inl (p, q)) = inl (cc (p, q))
in_along u v t (w ∷ r) e (inr f) = inr (in_along u v w r e f)

-- the converse
record IsNeighbours (t : ℕ) (r : List ℕ) (e a b : ℕ) : Type 0 where
  u : ℕ
  v : ℕ
  follows : FollowsAlong u v t r e
  low : a ≡ min u v
  high : b ≡ max u v

of_along : (a b t : ℕ) (r : List ℕ) (e : ℕ) → In (a, b) (pairs_along t r e) → IsNeighbours t r e a b
of_along a b t [] e (inl f) = record { u = t; v = e; follows = (refl, refl); low = ap (λ (x : ℕ × ℕ). x.0) f; high = ap (λ (x : ℕ × ℕ). x.1) f }
of_along a b t [] e (inr n) = absurd n
of_along a b t (w ∷ r) e (inl f) = record { u = t; v = w; follows = inl (refl, refl); low = ap (λ (x : ℕ × ℕ). x.0) f; high = ap (λ (x : ℕ × ℕ). x.1) f }
of_along a b t (w ∷ r) e (inr m) = let s = of_along a b w r e m in record { u = s.u; v = s.v; follows = inr s.follows; low = s.low; high = s.high }

-- neighbours of a face are among its pairs
in_round : (u v : ℕ) (q : List ℕ) → u < v → Follows u v q ⊎ Follows v u q → In (u, v) (pairs_round q)
in_round = grind (arith, in_along)

-- the converse
of_round : (a b : ℕ) (q : List ℕ) → In (a, b) (pairs_round q) → a ≢ b → (a < b) × (Follows a b q ⊎ Follows b a q)
of_round = grind (arith, of_along)

-- proof of the law `EdgesAreCounted`
pub edges_are_counted : EdgesAreCounted
edges_are_counted qs = record {
  list = distinct (flat_map pairs_round qs);
  once = once_distinct (flat_map pairs_round qs);
  all = λ u v. (λ m. there u v (of_distinct (flat_map pairs_round qs) u v m), λ e. back u v e);
  count = length-distinct (flat_map pairs_round qs);
}
  where
    there : (u v : ℕ) → In (u, v) (flat_map pairs_round qs) × (u ≢ v) → IsEdge qs u v
    there u v (m, d) = let (q, i, h) = of_flat_map pairs_round qs (u, v) m in let r = of_round u v q h d in (r.0, (q, i, r.1))

    back : (u v : ℕ) → IsEdge qs u v → In (u, v) (distinct (flat_map pairs_round qs))
    back u v (h, (q, i, f)) = in_distinct (flat_map pairs_round qs) u v (in_flat_map pairs_round qs q (u, v) i (in_round u v q h f)) (λ e. omega arith)
