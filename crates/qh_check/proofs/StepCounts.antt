-- Steps along edges pair off, and each is taken once.
use Rattle.qh_model.proofs.Common.{◌≡◌, ℕ, suc, ◌+◌, ◌*◌}
use Rattle.qh_model.proofs.Common.{◌/◌, ◌%◌, ◌<◌, ◌≤◌, arith, refl, sym, ap, subst, ◌∙◌, inl, inr, Bool, true, false, cond, List, [], ◌∷◌, get_or, length, map}
use Rattle.qh_model.proofs.Common.{cases_lt, nat_tests, sum_by-IsPermutation, count_by, filter, nat_lt, flat_map, Triple, edges, is_edge, steps_round, Vector}
use Rattle.qh_model.proofs.closed_surfaces.{SignedVolume.edge_tests, SignedVolume.is_edge-back, Sums.count, Sums.count-is, Sums.count_kept}
use Rattle.{qh_model.proofs.lists.Counts.count-map, qh_check.specs.declared.convex.steps.TheConstants.ROOM, qh_check.specs.steps.Triangles.corners}
use Rattle.qh_check.specs.steps.StepKeys.{step_in, turns, goes_up, goes_down, back, AreSteps, AreSharpPairs, EdgesRise}

-- the ends of a step
abbrev pub ends : Triple → ℕ × ℕ
ends s = (s.i, s.j)

-- true if a step goes from u to v
abbrev pub on : ℕ → ℕ → Triple → Bool
on u v s = is_edge (u, v) (ends s)

-- the edges of triangles are the ends of their steps
pub edges_are : (ts : List Triple) → edges ts ≡ map ends (flat_map turns ts)
edges_are [] = refl
edges_are (t ∷ ts) = ap (λ (es : List (ℕ × ℕ)). (t.i, t.j) ∷ (t.j, t.k) ∷ (t.k, t.i) ∷ es) (edges_are ts)

-- the steps round the polygons of triangles are the ends of their steps
pub steps_are : (ts : List Triple) → flat_map steps_round (map corners ts) ≡ map ends (flat_map turns ts)
steps_are [] = refl
steps_are (t ∷ ts) = ap (λ (es : List (ℕ × ℕ)). (t.i, t.j) ∷ (t.j, t.k) ∷ (t.k, t.i) ∷ es) (steps_are ts)

-- a filter keeps the count of std if all counted elements pass
kept_by : (f p : Triple → Bool) → ((s : Triple) → f s ≡ true → p s ≡ true) → (ss : List Triple) → count_by f (filter p ss) ≡ count_by f ss
kept_by f p h ss = sym (count-is f (filter p ss)) ∙ count_kept f p h ss ∙ count-is f ss

up_by : (u v : ℕ) → u < v → (s : Triple) → on u v s ≡ true → goes_up s ≡ true
up_by u v l s e = ap (λ (p : ℕ × ℕ). nat_lt p.0 p.1) (sym (edge_tests.same (u, v) (ends s) e)) ∙ grind (arith, nat_tests, l)

down_by : (u v : ℕ) → u < v → (s : Triple) → on v u s ≡ true → goes_down s ≡ true
down_by u v l s e = ap (λ (p : ℕ × ℕ). nat_lt p.1 p.0) (sym (edge_tests.same (v, u) (ends s) e)) ∙ grind (arith, nat_tests, l)

-- lists whose steps have the same ends at each position
same_ends : (xs ys : List ℕ) → length xs ≡ length ys
    → ((k : ℕ) → k < length xs → ends (step_in (get_or xs k 0)) ≡ ends (step_in (get_or ys k 0))) → map ends (map step_in xs) ≡ map ends (map step_in ys)
same_ends [] [] e h = refl
same_ends [] (y ∷ ys) e h = absurd (omega (arith, e))
same_ends (x ∷ xs) [] e h = absurd (omega (arith, e))
same_ends (x ∷ xs) (y ∷ ys) e h =
    let first : ends (step_in x) ≡ ends (step_in y) = h 0 (omega arith) in
    let others = same_ends xs ys (omega (arith, e)) (λ k l. h (suc k) (omega (arith, l))) in cc (first, others)

-- ---- keys of edges that rise
-- a rising list without its first element rises
rises_on : (x : ℕ) (xs : List ℕ) → EdgesRise (x ∷ xs) → EdgesRise xs
rises_on x xs rise k l e m = rise (suc k) (suc l) (omega (arith, e)) (omega (arith, m))

-- one more key that is not counted
not_counted : (b : Bool) (n : ℕ) → (b ≡ true → ⊥) → n ≡ 0 → cond b 1 0 + n ≡ 0
not_counted true n f e = absurd (f refl)
not_counted false n f e = omega (arith, e)

-- no key is counted behind a higher edge
none_above : (f : ℕ → Bool) (e : ℕ) → ((key : ℕ) → f key ≡ true → key / ROOM ≡ e) → (x : ℕ) (xs : List ℕ)
    → EdgesRise (x ∷ xs) → e < x / ROOM → count f (x ∷ xs) ≡ 0
none_above f e tells x [] rise l = not_counted (f x) 0 (λ t. (let same = tells x t in omega (arith, same, l))) refl
none_above f e tells x (y ∷ ys) rise l =
    not_counted (f x) (count f (y ∷ ys)) (λ t. (omega (arith, tells x t, l)))
    (none_above f e tells y ys (rises_on x (y ∷ ys) rise) (let n : x / ROOM < y / ROOM = rise 0 1 (omega arith) (omega arith) in omega (arith, n, l)))

-- no key is counted behind the edge itself
none_behind : (f : ℕ → Bool) (e : ℕ) → ((key : ℕ) → f key ≡ true → key / ROOM ≡ e) → (x : ℕ) (xs : List ℕ)
    → EdgesRise (x ∷ xs) → x / ROOM ≡ e → count f xs ≡ 0
none_behind f e tells x [] rise same = refl
none_behind f e tells x (y ∷ ys) rise same =
    none_above f e tells y ys (rises_on x (y ∷ ys) rise) (let n : x / ROOM < y / ROOM = rise 0 1 (omega arith) (omega arith) in omega (arith, n, same))

-- so each edge has at most one key
pub once_rising : (f : ℕ → Bool) (e : ℕ) → ((key : ℕ) → f key ≡ true → key / ROOM ≡ e) → (xs : List ℕ) → EdgesRise xs → count f xs ≤ 1
once_rising f e tells [] rise = omega arith
once_rising f e tells (x ∷ xs) rise =
    first (f x) (count f xs) (λ t. none_behind f e tells x xs rise (tells x t)) (once_rising f e tells xs (rises_on x xs rise))
  where
    first : (b : Bool) (n : ℕ) → (b ≡ true → n ≡ 0) → n ≤ 1 → cond b 1 0 + n ≤ 1
    first true n g l = omega (arith, g refl)
    first false n g l = omega (arith, l)

-- ---- steps of triangles in two lists that pair off
module _ (ts : List Triple) (up down : List ℕ) (steps : AreSteps ts up down) where
  abbrev all : List Triple
  all = flat_map turns ts

  -- the first list counts the steps to a higher id
  pub count_up : (u v : ℕ) → u < v → count_by (is_edge (u, v)) (map ends all) ≡ count_by (is_edge (u, v)) (map ends (map step_in up))
  count_up u v l =
      count-map ends (is_edge (u, v)) all ∙ sym (kept_by (on u v) goes_up (up_by u v l) all)
      ∙ sym (sum_by-IsPermutation (λ s. cond (on u v s) 1 0) _ _ steps.ups) ∙ sym (count-map ends (is_edge (u, v)) (map step_in up))

  -- the second list counts the steps back
  pub count_down : (u v : ℕ) → u < v → count_by (is_edge (v, u)) (map ends all) ≡ count_by (is_edge (u, v)) (map ends (map step_in down))
  count_down u v l =
      count-map ends (is_edge (v, u)) all ∙ sym (kept_by (on v u) goes_down (down_by u v l) all)
      ∙ ap (λ (f : Triple → Bool). count_by f (filter goes_down all)) (λ i s. sym (is_edge-back (u, v) (ends s)) i)
      ∙ sym (count-map back (on u v) (filter goes_down all))
      ∙ sym (sum_by-IsPermutation (λ s. cond (on u v s) 1 0) _ _ steps.downs) ∙ sym (count-map ends (is_edge (u, v)) (map step_in down))

  module _ (at : ℕ → Vector) (pairs : AreSharpPairs at up down) where
    same : map ends (map step_in up) ≡ map ends (map step_in down)
    same = same_ends up down pairs.count (λ k l. pair _ _ _ _ (pairs.each k l).from (pairs.each k l).to)
      where
        pair : (a b c d : ℕ) → a ≡ c → b ≡ d → ◌≡◌ {A = ℕ × ℕ} (a, b) (c, d)
        pair a b c d p q = rw (p, q) refl

    -- each step is taken as often as the step back
    pub closes : (u v : ℕ) → count_by (is_edge (u, v)) (map ends all) ≡ count_by (is_edge (v, u)) (map ends all)
    closes u v = elim (cases_lt u v) [
      | inl l ↦ ahead u v l
      | inr r ↦ elim (cases_lt v u) [ inl l ↦ sym (ahead v u l) | inr s ↦ (let e : u ≡ v = omega (arith, r, s) in rw e refl) ]
    ]
      where
        ahead : (u v : ℕ) → u < v → count_by (is_edge (u, v)) (map ends all) ≡ count_by (is_edge (v, u)) (map ends all)
        ahead u v l = count_up u v l ∙ ap (count_by (is_edge (u, v))) same ∙ sym (count_down u v l)

  -- each step is taken at most once
  pub once : EdgesRise up → (u v : ℕ) → u < v → count_by (is_edge (u, v)) (map ends all) ≤ 1
  once rise u v l = subst (λ (n : ℕ). n ≤ 1) (sym told) (once_rising (λ key. on u v (step_in key)) (u * ROOM + v) tells up rise)
    where
      tells : (key : ℕ) → on u v (step_in key) ≡ true → key / ROOM ≡ u * ROOM + v
      tells key e =
          let whole : key / ROOM / ROOM * ROOM + key / ROOM % ROOM ≡ key / ROOM = omega arith in
          sym whole ∙ ap (λ (p : ℕ × ℕ). p.0 * ROOM + p.1) (sym (edge_tests.same (u, v) (ends (step_in key)) e))

      told : count_by (is_edge (u, v)) (map ends all) ≡ count (λ key. on u v (step_in key)) up
      told = count_up u v l ∙ count-map ends (is_edge (u, v)) (map step_in up) ∙ count-map step_in (on u v) up
          ∙ sym (count-is (λ key. on u v (step_in key)) up)
