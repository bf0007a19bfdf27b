-- The number of times that lists of steps and polygons take a step, and sums over steps of functions that change their sign with a step.
use Rattle.qh_model.proofs.Common.{◌≡◌, ℕ, ◌+◌, ◌<◌, ◌≤◌, arith, refl, sym, ap, subst, ◌∙◌, inl, inr, ⊎_elim, ◌⊎◌, List, [], ◌∷◌, ◌++◌, Bool, true, map, false}
use Rattle.qh_model.proofs.Common.{cond, cases_Bool, cases_lt, ints, flat_map, ◌↔◌, filter, ℤ, pos, ◌+ℤ◌, ◌-ℤ◌, neg_ℤ, steps_along, steps_round, AreClosed}
use Rattle.qh_model.proofs.Common.{step_count, is_edge, FollowsAlong, Follows, In, Once}
use Rattle.qh_model.proofs.{Decisions.Decided, Decisions.test, Decisions.told, Decisions.holds, Decisions.contrary, Decisions.same_number, lists.Images.in_map}
use Rattle.qh_model.proofs.{lists.Filters.of_filter, lists.Joined.of_flat_map, lists.Joined.once_append, polygons.Steps.on_round}
use Rattle.qh_model.proofs.closed_surfaces.Sums.{count, count-is, sum_z, count_kept, sum_z-same_counts}
use Rattle.qh_model.proofs.closed_surfaces.SignedVolume.{edge_tests, back, is_edge-back}

-- two tests are equal if each passes where the other does
pub alike_tests : (a b : Bool) → (a ≡ true) ↔ (b ≡ true) → a ≡ b
alike_tests true b h = sym (h.0 refl)
alike_tests false true h = h.1 refl
alike_tests false false h = refl

-- ---- the number of times that a pair occurs in a list
abbrev pub times : ℕ → ℕ → List (ℕ × ℕ) → ℕ
times u v es = count (is_edge (u, v)) es

abbrev pub Has : ℕ → ℕ → List (ℕ × ℕ) → Type 0
Has u v es = In {X = ℕ × ℕ} (u, v) es

count-append : {X : Type 0} (p : X → Bool) (xs ys : List X) → count p (xs ++ ys) ≡ count p xs + count p ys
count-append p [] ys = omega arith
count-append p (x ∷ xs) ys = omega (arith, count-append p xs ys)

pub pair_ends : {x y a b : ℕ} → ◌≡◌ {A = ℕ × ℕ} (x, y) (a, b) → (x ≡ a) × (y ≡ b)
pair_ends p = (ap (λ (t : ℕ × ℕ). t.0) p, ap (λ (t : ℕ × ℕ). t.1) p)

-- the steps that polygons take are counted in the list of all their steps
pub step_times : (qs : List (List ℕ)) (u v : ℕ) → step_count qs u v ≡ times u v (flat_map steps_round qs)
step_times qs u v = sym (count-is (is_edge (u, v)) (flat_map steps_round qs))

pub closed_times : (qs : List (List ℕ)) → AreClosed qs → (u v : ℕ) → times u v (flat_map steps_round qs) ≡ times v u (flat_map steps_round qs)
closed_times qs h u v = sym (step_times qs u v) ∙ h u v ∙ step_times qs v u

pub times-more : (u v : ℕ) (q : List ℕ) (qs : List (List ℕ))
    → times u v (flat_map steps_round (q ∷ qs)) ≡ times u v (steps_round q) + times u v (flat_map steps_round qs)
times-more u v q qs = count-append (is_edge (u, v)) (steps_round q) (flat_map steps_round qs)

-- a pair that is not in a list is counted 0 times
pub none_there : (u v : ℕ) (es : List (ℕ × ℕ)) → ¬ (Has u v es) → times u v es ≡ 0
none_there u v [] n = refl
none_there u v (e ∷ es) n = elim (cases_Bool (is_edge (u, v) e)) [
  | inl t ↦ absurd (n (inl (edge_tests.same (u, v) e t)))
  | inr f ↦ rw f (let r = none_there u v es (λ i. n (inr i)) in omega (arith, r))
]

-- a pair that is in a list is counted at least once
some_there : (u v : ℕ) (es : List (ℕ × ℕ)) → Has u v es → 0 < times u v es
some_there u v [] m = absurd m
some_there u v (e ∷ es) (inl h) =
    let t : is_edge (u, v) e ≡ true = subst (λ (x : ℕ × ℕ). is_edge (u, v) x ≡ true) h (edge_tests.itself (u, v)) in rw t (omega arith)
some_there u v (e ∷ es) (inr m) = let r = some_there u v es m in omega (arith, r)

-- a pair that is counted is in the list
pub is_there : (u v : ℕ) (es : List (ℕ × ℕ)) → 0 < times u v es → Has u v es
is_there u v [] h = absurd (omega arith)
is_there u v (e ∷ es) h = elim (cases_Bool (is_edge (u, v) e)) [
  | inl t ↦ inl (edge_tests.same (u, v) e t)
  | inr f ↦ inr (is_there u v es (let k = rw f at h in omega (arith, k)))
]

pub there_or_not : (u v : ℕ) (es : List (ℕ × ℕ)) → Decided (Has u v es)
there_or_not u v es = elim (cases_lt 0 (times u v es)) [
  | inl h ↦ inl (is_there u v es h)
  | inr h ↦ inr (λ m. let s = some_there u v es m in omega (arith, h, s))
]

-- in a list with each member once, a pair is counted at most once
pub once_times : (u v : ℕ) (es : List (ℕ × ℕ)) → Once es → times u v es ≤ 1
once_times u v [] o = omega arith
once_times u v (e ∷ es) o = elim (cases_Bool (is_edge (u, v) e)) [
  | inl t ↦ rw t (let r = none_there u v es (λ i. o.0 (subst (λ (x : ℕ × ℕ). In x es) (edge_tests.same (u, v) e t) i)) in omega (arith, r))
  | inr f ↦ rw f (let r = once_times u v es o.1 in omega (arith, r))
]

-- lists with each member once and no member in common, joined, have each member once
pub once_flat_map : {X Y : Type 0} (f : X → List Y) (xs : List X) → Once xs → ((x : X) → In x xs → Once (f x))
    → ((x y : X) (z : Y) → In x xs → In y xs → In z (f x) → In z (f y) → x ≡ y) → Once (flat_map f xs)
once_flat_map f [] o each one = tt
once_flat_map {X} {Y} f (x ∷ xs) o each one =
    once_append (f x) (flat_map f xs) (each x (inl refl))
    (once_flat_map f xs o.1 (λ y i. each y (inr i)) (λ y z w i j. one y z w (inr i) (inr j)))
    (λ z i j. let r = of_flat_map f xs z j in o.0 (subst (λ y. In y xs) (sym (one x r.0 z (inl refl) (inr r.1) i r.2)) r.1))

-- ---- the steps round a polygon
pub way_follows : (x y t : ℕ) (r : List ℕ) (e : ℕ) → Has x y (steps_along t r e) → FollowsAlong x y t r e
way_follows x y t [] e (inl h) = let p = pair_ends h in (sym p.0, sym p.1)
way_follows x y t [] e (inr h) = absurd h
way_follows x y t (w ∷ r) e (inl h) = let p = pair_ends h in inl (sym p.0, sym p.1)
way_follows x y t (w ∷ r) e (inr h) = inr (way_follows x y w r e h)

-- pairs with different first members are different, and the first members of the steps are the corners
pub once_firsts : (es : List (ℕ × ℕ)) → Once (map (λ (e : ℕ × ℕ). e.0) es) → Once es
once_firsts [] o = tt
once_firsts (e ∷ es) o = ((λ m. o.0 (in_map (λ (e : ℕ × ℕ). e.0) es e m)), once_firsts es o.1)

along_firsts : (t : ℕ) (r : List ℕ) (e : ℕ) → map (λ (e : ℕ × ℕ). e.0) (steps_along t r e) ≡ t ∷ r
along_firsts t [] e = refl
along_firsts t (w ∷ r) e = ap (λ l. t ∷ l) (along_firsts w r e)

pub step_firsts : (q : List ℕ) → map (λ (e : ℕ × ℕ). e.0) (steps_round q) ≡ q
step_firsts [] = refl
step_firsts (t ∷ r) = along_firsts t r t

-- a polygon with each corner once takes each of its steps once
pub taken : (u v : ℕ) (q : List ℕ) → Once q → Follows u v q → times u v (steps_round q) ≡ 1
taken u v q o h =
    let l = some_there u v (steps_round q) ((on_round u v q).1 h) in
    let m = once_times u v (steps_round q) (once_firsts (steps_round q) (subst Once (sym (step_firsts q)) o)) in omega (arith, l, m)

pub not_taken : (u v : ℕ) (q : List ℕ) → ¬ (Follows u v q) → times u v (steps_round q) ≡ 0
not_taken u v q h = none_there u v (steps_round q) (λ m. h ((on_round u v q).0 m))

pub follows_or_not : (F : List ℕ) (u v : ℕ) → Decided (Follows u v F)
follows_or_not F u v = elim (there_or_not u v (steps_round F)) [ inl m ↦ inl ((on_round u v F).0 m) | inr x ↦ inr (λ f. x ((on_round u v F).1 f)) ]

abbrev pub Beside : List ℕ → ℕ → ℕ → Type 0
Beside F u v = Follows u v F ⊎ Follows v u F

pub beside_or_not : (F : List ℕ) (u v : ℕ) → Decided (Beside F u v)
beside_or_not F u v = by (follows_or_not F u v) (follows_or_not F v u)
  where
    by : Decided (Follows u v F) → Decided (Follows v u F) → Decided (Beside F u v)
    by (inl h) q = inl (inl h)
    by (inr x) (inl h) = inl (inr h)
    by (inr x) (inr y) = inr (λ h. ⊎_elim x y h)

abbrev pub IsOdd : ((ℕ × ℕ) → ℤ) → Type 0
IsOdd g = (e : ℕ × ℕ) → g (back e) ≡ neg_ℤ (g e)

times-turned : (u v : ℕ) (es : List (ℕ × ℕ)) → times u v (map back es) ≡ times v u es
times-turned u v [] = refl
times-turned u v (f ∷ es) = rw (is_edge-back (u, v) f, times-turned u v es) refl

sum-turned : (g : (ℕ × ℕ) → ℤ) → IsOdd g → (es : List (ℕ × ℕ)) → sum_z g (map back es) ≡ neg_ℤ (sum_z g es)
sum-turned g h [] = refl
sum-turned g h (e ∷ es) = rw (h e, sum-turned g h es) (omega (arith, ints))

-- the sum over steps that are taken as often as the steps back is 0
pub sum_cancels : (g : (ℕ × ℕ) → ℤ) → IsOdd g → (es : List (ℕ × ℕ)) → ((u v : ℕ) → times u v es ≡ times v u es) → sum_z g es ≡ pos 0
sum_cancels g h es c =
    let same = sum_z-same_counts is_edge edge_tests g es (map back es) (λ e. c e.0 e.1 ∙ sym (times-turned e.0 e.1 es)) in
    omega (arith, ints, same ∙ sum-turned g h es)

pub sum-append : {X : Type 0} (g : X → ℤ) (xs ys : List X) → sum_z g (xs ++ ys) ≡ sum_z g xs +ℤ sum_z g ys
sum-append g [] ys = omega (arith, ints)
sum-append g (x ∷ xs) ys = omega (arith, ints, sum-append g xs ys)

-- the sum is the same over two lists if, for each step, the count of the step minus that of the step back is the same
pub sum_same : (g : (ℕ × ℕ) → ℤ) → IsOdd g → (es fs : List (ℕ × ℕ)) → ((u v : ℕ) → times u v es + times v u fs ≡ times v u es + times u v fs)
    → sum_z g es ≡ sum_z g fs
sum_same g h es fs c =
    let zero_sum = sum_cancels g h (es ++ map back fs) (λ u v. omega (
      arith,
      c u v,
      count-append (is_edge (u, v)) es (map back fs),
      count-append (is_edge (v, u)) es (map back fs),
      times-turned u v fs,
      times-turned v u fs,
    )) in
    omega (arith, ints, zero_sum, sum-append g es (map back fs), sum-turned g h fs)

-- ---- the sum is 0, too, if only steps at which the function is not 0 are taken as often as the steps back
module _ (g : (ℕ × ℕ) → ℤ) (odd : IsOdd g) (es : List (ℕ × ℕ)) where
  some_or_not : (e : ℕ × ℕ) → Decided (¬ (g e ≡ pos 0))
  some_or_not e = contrary (g e ≡ pos 0) (same_number (g e) (pos 0))

  abbrev some_part : (ℕ × ℕ) → Bool
  some_part e = test (some_or_not e)

  kept_times : (u v : ℕ) → ¬ (g (u, v) ≡ pos 0) → times u v (filter some_part es) ≡ times u v es
  kept_times u v h = count_kept (is_edge (u, v)) some_part
      (λ k e. subst (λ (x : ℕ × ℕ). some_part x ≡ true) (edge_tests.same (u, v) k e) (told (some_or_not (u, v)) h)) es

  dropped_times : (u v : ℕ) → g (u, v) ≡ pos 0 → times u v (filter some_part es) ≡ 0
  dropped_times u v h = none_there u v (filter some_part es) (λ m. holds (some_or_not (u, v)) (of_filter some_part es (u, v) m).1 h)

  kept_sum : (fs : List (ℕ × ℕ)) → sum_z g (filter some_part fs) ≡ sum_z g fs
  kept_sum [] = refl
  kept_sum (e ∷ fs) = elim (cases_Bool (some_part e)) [
    | inl t ↦ rw t (ap (λ z. g e +ℤ z) (kept_sum fs))
    | inr f ↦ rw f (kept_sum fs ∙ nothing f (same_number (g e) (pos 0)))
  ]
    where
      nothing : some_part e ≡ false → Decided (g e ≡ pos 0) → sum_z g fs ≡ g e +ℤ sum_z g fs
      nothing f (inl z) = omega (arith, ints, z)
      nothing f (inr n) = let t = told (some_or_not e) n in cc

  pub sum_off : ((u v : ℕ) → ¬ (g (u, v) ≡ pos 0) → times u v es ≡ times v u es) → sum_z g es ≡ pos 0
  sum_off h = sym (kept_sum es) ∙ sum_cancels g odd (filter some_part es) even
    where
      even : (u v : ℕ) → times u v (filter some_part es) ≡ times v u (filter some_part es)
      even u v = by (same_number (g (u, v)) (pos 0))
        where
          by : Decided (g (u, v) ≡ pos 0) → times u v (filter some_part es) ≡ times v u (filter some_part es)
          by (inl z) = dropped_times u v z ∙ sym (dropped_times v u (let o = odd (u, v) in omega (arith, ints, o, z)))
          by (inr n) = kept_times u v n ∙ h u v n ∙ sym (kept_times v u (λ z. n (let o = odd (u, v) in omega (arith, ints, o, z))))

-- ---- the count of a step minus that of the step back
abbrev pub lead : ℕ → ℕ → (ℕ × ℕ) → ℤ
lead u v e = pos (cond (is_edge (u, v) e) 1 0) -ℤ pos (cond (is_edge (v, u) e) 1 0)

pub lead-odd : (u v : ℕ) → IsOdd (lead u v)
lead-odd u v e = rw (is_edge-back (u, v) e, is_edge-back (v, u) e) (omega (arith, ints))

pub lead_sum : (u v : ℕ) (es : List (ℕ × ℕ)) → sum_z (lead u v) es ≡ pos (times u v es) -ℤ pos (times v u es)
lead_sum u v [] = refl
lead_sum u v (e ∷ es) = omega (arith, ints, lead_sum u v es)
