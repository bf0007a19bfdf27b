-- Polygons are closed exactly if the keys of their steps to higher ids and the reversed keys of their steps to lower ids are the same when sorted.
use Rattle.qh_model.proofs.Common.{◌≡◌, ◌≢◌, ℕ, zero, suc, ◌+◌, ◌<◌, ◌≤◌, arith, refl, sym, ap, subst, ◌∙◌, inl, inr, List, [], ◌∷◌, map, Bool, true, false}
use Rattle.qh_model.proofs.Common.{cond, eqb, eqb-true, IsPermutation, cases_Bool, cases_lt, nat_tests, sum_by-IsPermutation, count_by, filter, nat_lt}
use Rattle.qh_model.proofs.Common.{flat_map, halves, high_of, low_of, is_edge, steps_round, step_count, AreClosed}
use Rattle.qh_model.proofs.{PackedPairs.halves-same, closed_surfaces.Sums.count, closed_surfaces.Sums.count-is, closed_surfaces.Sums.count_kept}
use Rattle.qh_model.proofs.closed_surfaces.SignedVolume.{edge_tests, eqb-refl, is_edge-back}
use Rattle.qh_model.proofs.lists.Counts.{count-map}
use Rattle.qh_bodies.specs.steps.StepKeys.{back, goes_up, goes_down, CountOtherwise, EachOnce, IsTwice}

-- ---- keys
-- keys are equal if their steps are
pub same_step : (z k : ℕ) → eqb z k ≡ is_edge (halves z) (halves k)
same_step z k = alike (eqb z k) (is_edge (halves z) (halves k)) there back_again
  where
    alike : (a b : Bool) → (a ≡ true → b ≡ true) → (b ≡ true → a ≡ true) → a ≡ b
    alike true b f g = sym (f refl)
    alike false true f g = g refl
    alike false false f g = refl

    there : eqb z k ≡ true → is_edge (halves z) (halves k) ≡ true
    there e =
        let same = eqb-true z k e in
        subst (λ n. is_edge (halves z) (halves n) ≡ true) same (edge_tests.itself (halves z))

    back_again : is_edge (halves z) (halves k) ≡ true → eqb z k ≡ true
    back_again e =
        let same = halves-same z k (edge_tests.same (halves z) (halves k) e) in
        subst (λ n. eqb z n ≡ true) same (eqb-refl z)

-- the test of a key's step
abbrev pub on : ℕ → ℕ → ℕ → Bool
on u v k = is_edge (u, v) (halves k)

-- a key occurs as often as its step
pub key_counts : (z : ℕ) (ks : List ℕ) → count_by (eqb z) ks ≡ count_by (on (high_of z) (low_of z)) ks
key_counts z ks = ap (λ (f : ℕ → Bool). count_by f ks) (λ i k. same_step z k i)

-- if no counted element passes, the count after the filter is 0
lost : {X : Type 0} (f p : X → Bool) → ((k : X) → f k ≡ true → p k ≡ false) → (ks : List X) → count f (filter p ks) ≡ 0
lost f p h [] = refl
lost f p h (k ∷ ks) = elim (cases_Bool (p k)) [
  | inl t ↦ rw t (first (f k) refl t (lost f p h ks))
  | inr t ↦ rw t (lost f p h ks)
]
  where
    first : (b : Bool) → f k ≡ b → p k ≡ true → count f (filter p ks) ≡ 0 → cond b 1 0 + count f (filter p ks) ≡ 0
    first true e t z = let q = h k e in cc
    first false e t z = omega arith

-- a filter by a test that agrees on equal elements keeps the count, or makes it 0
pub halved : {X : Type 0} (f p : X → Bool) (b : Bool) → ((k : X) → f k ≡ true → p k ≡ b) → (ks : List X)
    → count f (filter p ks) ≡ cond b (count f ks) 0
halved = grind (arith, count_kept, lost)

up_by : (u v k : ℕ) → on u v k ≡ true → goes_up k ≡ nat_lt u v
up_by u v k e = ap (λ (s : ℕ × ℕ). nat_lt s.0 s.1) (sym (edge_tests.same (u, v) (halves k) e))

down_by : (u v k : ℕ) → on v u k ≡ true → goes_down k ≡ nat_lt u v
down_by u v k e = ap (λ (s : ℕ × ℕ). nat_lt s.1 s.0) (sym (edge_tests.same (v, u) (halves k) e))

-- ---- steps round polygons
module _ (qs : List (List ℕ)) (keys up there : List ℕ) (steps : map halves keys ≡ flat_map steps_round qs)
    (ups : up ≡ filter goes_up keys) (p : IsPermutation up there) where
  -- the keys count the steps
  in_keys : (u v : ℕ) → count (on u v) keys ≡ step_count qs u v
  in_keys = grind (arith, count-is, count-map)

  -- the sorted keys count the steps to a higher id
  half_up : (u v : ℕ) → count_by (on u v) there ≡ cond (nat_lt u v) (step_count qs u v) 0
  half_up u v =
      sum_by-IsPermutation (λ k. cond (on u v k) 1 0) up there p ∙ ap (count_by (on u v)) ups
      ∙ sym (count-is (on u v) (filter goes_up keys)) ∙ halved (on u v) goes_up (nat_lt u v) (up_by u v) keys
      ∙ ap (λ n. cond (nat_lt u v) n 0) (in_keys u v)

  -- a key that is counted
  counted_key : (f : ℕ → Bool) (ks : List ℕ) → 0 < count f ks → (z : ℕ) × (f z ≡ true)
  counted_key f [] h = absurd (omega arith)
  counted_key f (k ∷ ks) h = by (f k) refl h (λ l. counted_key f ks l)
    where
      by : (b : Bool) → f k ≡ b → 0 < cond b 1 0 + count f ks → (0 < count f ks → (z : ℕ) × (f z ≡ true))
          → (z : ℕ) × (f z ≡ true)
      by true e h g = (k, e)
      by false e h g = g (omega arith)

  -- keys that occur once are those of steps that are taken once
  pub once_by_keys : EachOnce there → (u v : ℕ) → u < v → step_count qs u v ≤ 1
  once_by_keys once u v l = by_count (step_count qs u v) told
    where
      t : nat_lt u v ≡ true
      t = grind (arith, nat_tests, l)

      told : count_by (on u v) there ≡ step_count qs u v
      told = half_up u v ∙ ap (λ b. cond b (step_count qs u v) 0) t

      by_count : (n : ℕ) → count_by (on u v) there ≡ n → n ≤ 1
      by_count n e =
          at_most n (λ more. (
          let z = counted_key (on u v) there (subst (λ (m : ℕ). 0 < m) (sym (count-is (on u v) there ∙ e)) more) in
          let same : count_by (eqb z.0) there ≡ n =
          ap (λ (f : ℕ → Bool). count_by f there)
          (λ i k. (same_step z.0 k ∙ ap (λ (s : ℕ × ℕ). is_edge s (halves k)) (sym (edge_tests.same (u, v) (halves z.0) z.1))) i) ∙ e in
          subst (λ (m : ℕ). m ≤ 1) same (once z.0)))
        where
          at_most : (n : ℕ) → (0 < n → n ≤ 1) → n ≤ 1
          at_most zero f = omega arith
          at_most (suc n) f = f (omega arith)

  -- a key that occurs twice is that of a step to a higher id that is taken twice
  pub twice_by_key : (z : ℕ) → IsTwice there z
      → ((halves z).0 < (halves z).1) × (1 < step_count qs (halves z).0 (halves z).1)
  twice_by_key z twice = by (nat_lt (high_of z) (low_of z)) refl (subst (λ (m : ℕ). 1 < m) told twice)
    where
      told : count_by (eqb z) there ≡ cond (nat_lt (high_of z) (low_of z)) (step_count qs (high_of z) (low_of z)) 0
      told = ap (λ (f : ℕ → Bool). count_by f there) (λ i k. same_step z k i) ∙ half_up (high_of z) (low_of z)

      by : (b : Bool) → nat_lt (high_of z) (low_of z) ≡ b → 1 < cond b (step_count qs (high_of z) (low_of z)) 0
          → (high_of z < low_of z) × (1 < step_count qs (high_of z) (low_of z))
      by true e h = (grind (arith, nat_tests, e), h)
      by false e h = absurd (omega arith)

-- polygons are closed if each step to a higher id is taken as often as the step back
pub closed_ahead : (qs : List (List ℕ)) → ((u v : ℕ) → u < v → step_count qs u v ≡ step_count qs v u) → AreClosed qs
closed_ahead qs ahead u v = elim (cases_lt u v) [
  | inl l ↦ ahead u v l
  | inr r ↦ elim (cases_lt v u) [ inl l ↦ sym (ahead v u l) | inr s ↦ level r s ]
]
  where
    level : v ≤ u → u ≤ v → step_count qs u v ≡ step_count qs v u
    level r s = let e : u ≡ v = omega arith in subst (λ w. step_count qs u w ≡ step_count qs w u) e refl

module _ (qs : List (List ℕ)) (keys up down there round : List ℕ) (steps : map halves keys ≡ flat_map steps_round qs)
    (ups : up ≡ filter goes_up keys) (downs : map halves down ≡ map back (map halves (filter goes_down keys)))
    (p : IsPermutation up there) (q : IsPermutation down round) where
  -- the reversed keys count the steps back
  half_down : (u v : ℕ) → count_by (on u v) round ≡ cond (nat_lt u v) (step_count qs v u) 0
  half_down u v =
      sum_by-IsPermutation (λ k. cond (on u v k) 1 0) down round q ∙ sym (count-map halves (is_edge (u, v)) down)
      ∙ ap (count_by (is_edge (u, v))) downs ∙ count-map back (is_edge (u, v)) (map halves lower)
      ∙ ap (λ (f : ℕ × ℕ → Bool). count_by f (map halves lower)) (λ i s. is_edge-back (u, v) s i)
      ∙ count-map halves (is_edge (v, u)) lower ∙ sym (count-is (on v u) lower)
      ∙ halved (on v u) goes_down (nat_lt u v) (down_by u v) keys ∙ ap (λ n. cond (nat_lt u v) n 0) (in_keys qs keys up there steps ups p v u)
    where
      lower : List ℕ
      lower = filter goes_down keys

  pub closed_by_keys : there ≡ round → AreClosed qs
  closed_by_keys same = closed_ahead qs ahead
    where
      pick : (b : Bool) (x y : ℕ) → b ≡ true → cond b x 0 ≡ cond b y 0 → x ≡ y
      pick true x y e h = h
      pick false x y e h = cc

      ahead : (u v : ℕ) → u < v → step_count qs u v ≡ step_count qs v u
      ahead u v l =
          let t : nat_lt u v ≡ true = grind (arith, nat_tests, l) in
          pick (nat_lt u v) _ _ t (sym (half_up qs keys up there steps ups p u v) ∙ ap (count_by (on u v)) same ∙ half_down u v)

  -- a key that the lists do not have equally often is that of an open step
  pub open_by_key : (z : ℕ) → CountOtherwise there round z
      → step_count qs (halves z).0 (halves z).1 ≢ step_count qs (halves z).1 (halves z).0
  open_by_key z otherwise e =
      otherwise (key_counts z there ∙ half_up qs keys up there steps ups p (high_of z) (low_of z)
      ∙ ap (λ n. cond (nat_lt (high_of z) (low_of z)) n 0) e ∙ sym (half_down (high_of z) (low_of z)) ∙ sym (key_counts z round))
