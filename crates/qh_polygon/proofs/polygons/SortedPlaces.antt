-- The cycle of the two chains of sorted ids goes round the extremes.
use Rattle.qh_model.proofs.Members.{All-In, All-of, rising_tail}
use Rattle.qh_model.proofs.algebra.{Signs.lt_neg, VectorIdentities.dot-opposite, VectorIdentities.opposite}
use Rattle.qh_model.specs.{contract.IdSets.HasDistinctPoints, headline.Predicates.place, headline.Sets.In, headline.Vector.Vector}
use Rattle.qh_polygon.proofs.PlaceOrder.{IsKeyOf, key_parts, place_code-same, rising_keys, sorted-all, sorted-only, sorted_keys}
use Rattle.qh_polygon.proofs.polygons.{ComponentTurns.joined-same, Cycles.in-turned_onto, Cycles.turned_onto-in, GoesRound.GoesRound, GoesRound.goes_round}
use Rattle.qh_polygon.proofs.polygons.PlaceHeights.{keyed_of, order, place_code-less}
use Rattle.qh_polygon.proofs.polygons.{Stacks.reverse-turned_onto, TurnLaws.RisesBy, Turns.IsFlat, Turns.IsKeyed, Turns.height_of, Turns.turn_about}
use Rattle.qh_polygon.specs.{contract.PlaceKeys.HasKey, contract.PlaceKeys.key_at, contract.PlaceNumbers.place_code, declared.place_keys.TheConstants.ROOM}
use Rattle.qh_polygon.specs.steps.{Chains.chain, Chains.joined, Chains.turn_of, Chains.turned_onto, PlaceKeys.AreByPlace, PlaceKeys.ids_in}
use Rattle.std.proofs.Common.{List, [], ap, arith, inl, inr, length, map, refl, reverse, subst, sym, ℕ, ⊎_elim, ◌%◌, ◌<◌, ◌∙◌, ◌∷◌, ◌≡◌}
use Rattle.std.proofs.{Math.Nat.ne_of_lt, lemmas.List.length-map, lemmas.List.Sorted.length_permutation}
use Rattle.std.specs.{List.All, List.AllByRecursion as Every, List.Sorted.IsStrictlyIncreasing, Prelude.ℤ, Prelude.◌<ℤ◌, Prelude.◌↔◌}

-- ---- rising keys are rising places
-- rising keys have rising heights
step_up : (pts : List Vector) (ids : List ℕ) (k l : ℕ) → HasDistinctPoints (place pts) (λ x. In x ids) → IsKeyOf pts ids k → IsKeyOf pts ids l → k < l
    → height_of order (place pts) (k % ROOM) <ℤ height_of order (place pts) (l % ROOM)
step_up pts ids k l d t u lt =
    place_code-less (place pts (k % ROOM)) (place pts (l % ROOM)) t.known.place_in u.known.place_in
    (let differ : place_code (place pts (k % ROOM)) ≡ place_code (place pts (l % ROOM)) → ⊥ =
    (λ e. ne_of_lt lt (t.is ∙ ap (key_at pts) (d (k % ROOM) (l % ROOM) t.has u.has (place_code-same _ _ t.known.place_in u.known.place_in e)) ∙ sym u.is)) in
    omega (arith, t.is ∙ key_parts pts (k % ROOM), u.is ∙ key_parts pts (l % ROOM), t.known.small, u.known.small, differ))

-- the same along a list
rises_of : (pts : List Vector) (ids : List ℕ) (k : ℕ) (ks : List ℕ) → HasDistinctPoints (place pts) (λ x. In x ids)
    → Every (IsKeyOf pts ids) (k ∷ ks) → IsStrictlyIncreasing (k ∷ ks)
    → RisesBy (height_of order (place pts)) (k % ROOM) (ids_in ks)
rises_of pts ids k [] d t c = tt
rises_of pts ids k (l ∷ ks) d t c = (step_up pts ids k l d t.0 t.1.0 (c 0 (omega arith)), rises_of pts ids l ks d t.1 (rising_tail k (l ∷ ks) c))

-- ---- reversed lists
-- the keys rise along the list from its first
abbrev FallsBack : (ℕ → ℤ) → List ℕ → Type 0
FallsBack key [] = Unit {0}
FallsBack key (x ∷ xs) = RisesBy key x xs

-- a rising list, reversed, rises in the opposite direction
falls_back : (h : Vector) (at : ℕ → Vector) (t : ℕ) (s acc : List ℕ) → RisesBy (height_of h at) t s
    → RisesBy (height_of (opposite h) at) t acc → FallsBack (height_of (opposite h) at) (turned_onto s (t ∷ acc))
falls_back h at t [] acc r f = f
falls_back h at t (y ∷ s) acc r f = falls_back h at y s (t ∷ acc) r.1 (lt_neg _ _ _ _ (dot-opposite h (at y)) (dot-opposite h (at t)) r.0, f)

-- the cycle of a rising list and its reverse
round_of : (n : Vector) (at : ℕ → Vector) (A : ℕ → Type 0) → IsFlat n at A → IsKeyed order at A
    → (x₀ x₁ : ℕ) (xs L : List ℕ) → ((x : ℕ) → In x (x₀ ∷ x₁ ∷ xs) ↔ A x) → ((x : ℕ) → In x L ↔ A x)
    → RisesBy (height_of order at) x₀ (x₁ ∷ xs) → FallsBack (height_of (opposite order) at) L
    → GoesRound n at A (joined (chain (turn_about n at) [] (x₀ ∷ x₁ ∷ xs)) (chain (turn_about n at) [] L))
round_of n at A flat keyed x₀ x₁ xs [] i j r f = absurd ((j x₀).1 ((i x₀).0 (inl refl)))
round_of n at A flat keyed x₀ x₁ xs (y₀ ∷ ys) i j r f =
    goes_round n order at A flat keyed x₀ x₁ ((i x₀).0 (inl refl)) ((i x₁).0 (inr (inl refl))) r.0
    (lt_neg _ _ _ _ (dot-opposite order (at x₁)) (dot-opposite order (at x₀)) r.0) x₀ (x₁ ∷ xs) y₀ ys i j r f

-- the same for the ids in rising keys
round_keys : (pts : List Vector) (ids keys : List ℕ) (n : Vector) → Every (IsKeyOf pts ids) keys
    → IsStrictlyIncreasing keys → 1 < length keys → ((x : ℕ) → In x (ids_in keys) ↔ In x ids)
    → All (HasKey pts) ids → HasDistinctPoints (place pts) (λ x. In x ids) → IsFlat n (place pts) (λ x. In x ids)
    → GoesRound n (place pts) (λ x. In x ids) (joined (chain (turn_about n (place pts)) [] (ids_in keys))
    (chain (turn_about n (place pts)) [] (reverse (ids_in keys))))
round_keys pts ids (a ∷ b ∷ ks) n t r l m k d flat =
    let up = rises_of pts ids a (b ∷ ks) d t r in
    subst (λ v. GoesRound n (place pts) (λ x. In x ids)
    (joined (chain (turn_about n (place pts)) [] (ids_in (a ∷ b ∷ ks))) (chain (turn_about n (place pts)) [] v)))
    (sym (reverse-turned_onto (ids_in (a ∷ b ∷ ks))))
    (round_of n (place pts) (λ x. In x ids) flat (keyed_of pts ids k d) (a % ROOM) (b % ROOM) (ids_in ks) (turned_onto (ids_in (a ∷ b ∷ ks)) []) m
    (λ x. (
      λ i. (m x).0 (⊎_elim (λ p. p) (λ p. absurd p) (turned_onto-in (ids_in (a ∷ b ∷ ks)) [] x i)),
      λ i. in-turned_onto (ids_in (a ∷ b ∷ ks)) [] x (inl ((m x).1 i)),
    ))
    up (falls_back order (place pts) (a % ROOM) (ids_in (b ∷ ks)) [] up tt))
round_keys pts ids keys n t r l m k d flat = absurd (omega arith)

-- the polygon, before it is rotated to its least id
pub round_sorted : (pts : List Vector) (ids sorted : List ℕ) (n : Vector) → AreByPlace pts ids sorted
    → All (HasKey pts) ids → IsStrictlyIncreasing ids → HasDistinctPoints (place pts) (λ x. In x ids)
    → 1 < length ids → IsFlat n (place pts) (λ x. In x ids)
    → GoesRound n (place pts) (λ x. In x ids) (joined (chain (turn_of pts n) [] sorted) (chain (turn_of pts n) [] (reverse sorted)))
round_sorted pts ids sorted n b k r d l flat =
    let long : 1 < length b.keys = (let e = length_permutation (map (key_at pts) ids) b.keys b.same in let f = length-map ids (key_at pts) in omega arith) in
    subst (GoesRound n (place pts) (λ x. In x ids)) (joined-same pts n (λ x. In x ids) sorted flat (sorted-only pts ids sorted b k))
    (subst (λ v. GoesRound n (place pts) (λ x. In x ids)
    (joined (chain (turn_about n (place pts)) [] v) (chain (turn_about n (place pts)) [] (reverse v)))) (sym b.is)
    (round_keys pts ids b.keys n (sorted_keys pts ids sorted b k) (rising_keys pts ids sorted b k r) long
    (λ x. (
      λ i. sorted-only pts ids sorted b k x (subst (λ v. In x v) (sym b.is) i),
      λ i. subst (λ v. In x v) b.is (sorted-all pts ids sorted b k x i),
    )) k d flat))

-- each sorted id is an index
pub sorted_indices : (pts : List Vector) (ids sorted : List ℕ) → AreByPlace pts ids sorted → All (HasKey pts) ids
    → All (λ i. i < length pts) ids → All (λ i. i < length pts) sorted
sorted_indices pts ids sorted b k h = All-of (λ i. i < length pts) sorted (λ x i. All-In (λ v. v < length pts) ids x h (sorted-only pts ids sorted b k x i))
