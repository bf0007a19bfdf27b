-- The greatest member in a direction is extreme, members are convex combinations of extremes, and extremes of a union.
use Rattle.qh_model.proofs.Common.{Combination, Extreme, HasDistinctPoints, In, List, Members, Others, Separator, Vector, [], arith, dot, inl, inr, ints, refl}
use Rattle.qh_model.proofs.Common.{subst, sym, ℕ, ⊎_elim, ◌↔◌, ◌∷◌, ◌≡◌, ◌≢◌, ◌⊎◌}
use Rattle.qh_model.proofs.Decisions.{contrary, holds, same_id, test, told}
use Rattle.qh_model.proofs.{Members.every_at, algebra.Integers.ring_rules, algebra.VectorIdentities.vector_path, combinations.Alternatives.all_lower}
use Rattle.qh_model.proofs.combinations.{Alternatives.combination_or_separator, OtherNames.combination_by_names, Vectors.V, Vectors.dot as vdot}
use Rattle.qh_model.proofs.extremes.LexicographicOrder.{AtMost, Greatest, Less, Same, collapse, greatest}
use Rattle.qh_model.proofs.lists.{Filters.in_filter, Filters.of_filter, Joined.in_flat_map, Joined.of_flat_map, Ranges.range_below, Ranges.range_has}
use Rattle.qh_model.specs.laws.ExtremeLaws.{GreatestIsExtreme, InBlocks, IsLower, MembersAreCombinations, UnionOfExtremes}
use Rattle.std.specs.{List.AllByRecursion as Every, List.flat_map, List.range_with_len, Prelude.filter, Prelude.ℤ, Prelude.◌*ℤ◌, Prelude.◌+ℤ◌, Prelude.◌<ℤ◌}

-- the key of the order
abbrev key : Vector → Vector → V 4
key w p = (dot w p, (p.x, (p.y, (p.z, tt))))

-- the order of the definition, by keys
less_of : (w p q : Vector) → IsLower w p q → Less 4 (key w p) (key w q)
less_of = grind arith

-- equal keys are equal points
pub same_vector : (w p q : Vector) → Same 4 (key w p) (key w q) → p ≡ q
same_vector w p q s = vector_path p q s.1.0 s.1.1.0 s.1.1.1.0

-- a functional of keys as a direction
abbrev bent : Vector → V 4 → Vector
bent w u = record { x = u.0 *ℤ w.x +ℤ u.1.0; y = u.0 *ℤ w.y +ℤ u.1.1.0; z = u.0 *ℤ w.z +ℤ u.1.1.1.0 }

-- the scalar product with this direction
bent_is : (w : Vector) (u : V 4) (p : Vector) → dot (bent w u) p ≡ vdot 4 u (key w p)
bent_is w u p = simp ring_rules (omega (arith, ints))

-- points strictly before p, by keys of which each functional is one of the points, do not combine to p
pub no_combination_by : (n : ℕ) (key : Vector → V n) (bend : V n → Vector) → ((u : V n) (p : Vector) → dot (bend u) p ≡ vdot n u (key p))
    → (at : ℕ → Vector) (A : ℕ → Type 0) (p : Vector) → ((j : ℕ) → A j → Less n (key (at j)) (key p)) → ¬ (Combination at A p)
no_combination_by n key bend e at A p h m = from_witness (collapse n (λ j. ⊥) (λ j. key (at j)) (key p) (m.a ∷ m.b ∷ m.c ∷ m.d ∷ [])
    (inr (h m.a m.has_a), (inr (h m.b m.has_b), (inr (h m.c m.has_c), (inr (h m.d m.has_d), tt)))))
  where
    from_witness : (U : V n) × Every (λ j. ⊥ ⊎ (vdot n U (key (at j)) <ℤ vdot n U (key p))) (m.a ∷ m.b ∷ m.c ∷ m.d ∷ []) → ⊥
    from_witness r = all_lower at A p (bend r.0) m (less m.a r.1.0) (less m.b r.1.1.0) (less m.c r.1.1.1.0) (less m.d r.1.1.1.1.0)
      where
        less : (j : ℕ) → ⊥ ⊎ (vdot n r.0 (key (at j)) <ℤ vdot n r.0 (key p)) → dot (bend r.0) (at j) <ℤ dot (bend r.0) p
        less j (inl b) = absurd b
        less j (inr l) = omega (arith, ints, e r.0 (at j), e r.0 p)

-- lower points do not combine to a point
pub no_combination : (at : ℕ → Vector) (A : ℕ → Type 0) (w p : Vector) → ((j : ℕ) → A j → Less 4 (key w (at j)) (key w p)) → ¬ (Combination at A p)
no_combination at A w p h = no_combination_by 4 (key w) (bent w) (bent_is w) at A p h

-- proof of the law `GreatestIsExtreme`
pub greatest_is_extreme : GreatestIsExtreme
greatest_is_extreme at ids w e c h = (c, no_combination at (Others (Members ids) e) w (at e) (λ j o. less_of w (at j) (at e) (h j o)))

-- ---- sets of the members of a list
-- the list has exactly the members of A
abbrev pub Listed : (ℕ → Type 0) → List ℕ → Type 0
Listed A xs = (j : ℕ) → A j ↔ In j xs

-- a list has exactly its own members
pub listed_itself : (xs : List ℕ) → Listed (Members xs) xs
listed_itself xs j = (λ h. h, λ h. h)

-- a convex combination of a part of a set is one of the set
pub combination_within : (at : ℕ → Vector) (A B : ℕ → Type 0) (p : Vector) → Combination at A p → ((j : ℕ) → A j → B j) → Combination at B p
combination_within at A B p m f = combination_by_names at at A B (λ j. j) f (λ j a. refl) p m

-- a listed set combines to p or is separated from it
pub alternative_in : (at : ℕ → Vector) (A : ℕ → Type 0) (xs : List ℕ) → Listed A xs → (p : Vector) → Combination at A p ⊎ Separator at A p
alternative_in at A xs l p = ⊎_elim (λ m. inl (combination_within at (Members xs) A p m (λ j c. (l j).1 c)))
    (λ s. inr (record { w = s.w; past = λ a h. s.past a ((l a).0 h) })) (combination_or_separator at xs p)

-- the part of a listed set that passes a test
pub listed_part : (A P : ℕ → Type 0) → ((i : ℕ) → P i ⊎ (¬ (P i))) → (xs : List ℕ) → Listed A xs → (ys : List ℕ) × Listed (λ j. A j × P j) ys
listed_part A P D xs l = (
  filter (λ j. test (D j)) xs,
  λ j. (
    λ h. in_filter (λ i. test (D i)) xs j ((l j).0 h.0) (told (D j) h.1),
    λ m. let r = of_filter (λ i. test (D i)) xs j m in ((l j).1 r.0, holds (D j) r.1),
  ),
)

-- equality of two ids is decided
pub apart : (i j : ℕ) → (j ≢ i) ⊎ (¬ (j ≢ i))
apart i j = contrary (j ≡ i) (same_id j i)

-- an extreme id of a list is separated from the others
pub separated : (at : ℕ → Vector) (ids : List ℕ) (l : ℕ) → Extreme at (Members ids) l → Separator at (Others (Members ids) l) (at l)
separated at ids l e =
    let others = listed_part (Members ids) (λ j. j ≢ l) (apart l) ids (listed_itself ids) in
    ⊎_elim (λ c. absurd (e.1 c)) (λ s. s) (alternative_in at (Others (Members ids) l) others.0 others.1 (at l))

-- decides whether a member is extreme
extreme_or_not : (at : ℕ → Vector) (A : ℕ → Type 0) (xs : List ℕ) → Listed A xs → (i : ℕ)
    → (¬ (Combination at (Others A i) (at i))) ⊎ (¬ (¬ (Combination at (Others A i) (at i))))
extreme_or_not at A xs l i =
    let (ys, k) = listed_part A (λ j. j ≢ i) (apart i) xs l in
    ⊎_elim (λ m. inr (λ n. n m))
    (λ s. inl (λ m. all_lower at (Others A i) (at i) s.w m (s.past m.a m.has_a) (s.past m.b m.has_b) (s.past m.c m.has_c) (s.past m.d m.has_d)))
    (alternative_in at (Others A i) ys k (at i))

-- ---- each member is a convex combination of extremes
-- the greatest member is extreme
top_is_extreme : (at : ℕ → Vector) (A : ℕ → Type 0) (xs : List ℕ) → Listed A xs → HasDistinctPoints at A
    → (w : Vector) (g : Greatest 4 (λ j. key w (at j)) xs) → Extreme at A g.top
top_is_extreme at A xs l d w g = (has, no_combination at (Others A g.top) w (at g.top) (λ j o. before j o (every_at _ xs j g.above ((l j).0 o.0))))
  where
    has : A g.top
    has = (l g.top).1 g.member

    before : (j : ℕ) → Others A g.top j → AtMost 4 (key w (at j)) (key w (at g.top)) → Less 4 (key w (at j)) (key w (at g.top))
    before j o (inr h) = h
    before j o (inl s) = absurd (o.1 (d j g.top o.0 has (same_vector w (at j) (at g.top) s)))

-- the greatest is not below another
not_above : (a b : ℤ) (T U : Type 0) → ((a ≡ b) × T) ⊎ ((a <ℤ b) ⊎ ((a ≡ b) × U)) → b <ℤ a → ⊥
not_above = grind arith

-- a list with a member has a greatest
a_greatest : (key : ℕ → V 4) (xs : List ℕ) (i : ℕ) → In i xs → Greatest 4 key xs
a_greatest key [] i m = absurd m
a_greatest key (x ∷ xs) i m = greatest 4 key x xs

-- each member of a listed set is a convex combination of its extremes
pub combination_of_extremes : (at : ℕ → Vector) (A : ℕ → Type 0) (xs : List ℕ) → Listed A xs → HasDistinctPoints at A
    → (i : ℕ) → A i → Combination at (Extreme at A) (at i)
combination_of_extremes at A xs l d i h = let (ys, k) = listed_part A (λ j. ¬ (Combination at (Others A j) (at j))) (extreme_or_not at A xs l) xs l in
    ⊎_elim (λ m. m) (λ s. let g = a_greatest (λ j. key s.w (at j)) xs i ((l i).0 h) in
    absurd (not_above _ _ _ _ (every_at (λ j. AtMost 4 (key s.w (at j)) (key s.w (at g.top))) xs i g.above ((l i).0 h))
    (s.past g.top (top_is_extreme at A xs l d s.w g)))) (alternative_in at (Extreme at A) ys k (at i))

-- proof of the law `MembersAreCombinations`
pub members_are_combinations : MembersAreCombinations
members_are_combinations at ids d i h = combination_of_extremes at (Members ids) ids (listed_itself ids) d i h

-- ---- sets between a set and its extremes
-- a set between a set and its extremes has the same extremes
pub extremes_between : (at : ℕ → Vector) (A B : ℕ → Type 0) (xs : List ℕ) → Listed A xs → HasDistinctPoints at A
    → ((i : ℕ) → B i → A i) → ((i : ℕ) → Extreme at A i → B i) → (i : ℕ) → Extreme at B i ↔ Extreme at A i
extremes_between at A B xs l d sub sup i = (down, up)
  where
    down : Extreme at B i → Extreme at A i
    down h = (
      sub i h.0,
      λ m. h.1 (combination_within at (Extreme at A) (Others B i) (at i) (combination_of_extremes at A xs l d i (sub i h.0))
          (λ j e. (sup j e, λ q. e.1 (subst (λ t. Combination at (Others A t) (at t)) (sym q) m)))),
    )

    up : Extreme at A i → Extreme at B i
    up h = (sup i h, λ m. h.1 (combination_within at (Others B i) (Others A i) (at i) m (λ j o. (sub j o.0, o.1))))

-- ---- the union of blocks
-- the list of all blocks together
abbrev gathered : ℕ → (ℕ → List ℕ) → List ℕ
gathered n block = flat_map block (range_with_len 0 n)

-- the union is the set of the members of this list
listed_blocks : (n : ℕ) (block : ℕ → List ℕ) → Listed (InBlocks n (λ k. Members (block k))) (gathered n block)
listed_blocks n block j = (
  λ h. in_flat_map block (range_with_len 0 n) h.0 j (range_has n h.0 h.1) h.2,
  λ m. let r = of_flat_map block (range_with_len 0 n) j m in (r.0, range_below n r.0 r.1, r.2),
)

-- proof of the law `UnionOfExtremes`
pub union_of_extremes : UnionOfExtremes
union_of_extremes at n block d =
    extremes_between at (InBlocks n (λ k. Members (block k))) (InBlocks n (λ k. Extreme at (Members (block k)))) (gathered n block) (listed_blocks n block) d
    (λ i b. (b.0, b.1, b.2.0))
    (λ i h. (
      h.0.0,
      h.0.1,
      (
        h.0.2,
        λ m. h.1 (combination_within at (Others (Members (block h.0.0)) i)
            (Others (InBlocks n (λ k. Members (block k))) i) (at i) m (λ j o. ((h.0.0, h.0.1, o.0), o.1))),
      ),
    ))
