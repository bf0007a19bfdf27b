-- Outside sets at the start, and with room for more facets.
use Rattle.std.proofs.Common.{◌≡◌, ℕ, zero, suc, ◌+◌, ◌<◌, ◌≤◌, arith, refl, List, [], ◌++◌, length, get_or, replicate, take, take_all, sum_by, ne_eqb}
use Rattle.std.proofs.lemmas.{Bool.Decides.nat_tests, List.FromFn.length-range_with_len, List.Folds.sum_by-replicate, List.Sums.sum_by-append}
use Rattle.{std.specs.List.range_with_len, qh_surface.specs.declared.outside_sets.Ends.Ends}
use Rattle.qh_surface.specs.steps.PositionChains.{none, count, IsChain, AreSets, no_sets, one_more, IsKept}

-- ---- the first sets
-- a range has no number below its first
range_below : (x a n : ℕ) → x < a → count x (range_with_len a n) ≡ 0
range_below x a zero h = refl
range_below x a (suc n) h = let b = range_below x (a + 1) n (omega arith) in rw (ne_eqb x a (λ e. omega arith)) (omega arith)

-- a range has each other number at most once
range_once : (x a n : ℕ) → count x (range_with_len a n) ≤ 1
range_once x a zero = omega arith
range_once x a (suc n) = let h = range_once x (a + 1) n in let b = range_below x (a + 1) n in grind (arith, nat_tests)

-- links to the next number make a range
range_chain : (links : List ℕ) (a n : ℕ) → a + n ≡ length links → ((k : ℕ) → k < length links → get_or links k 0 ≡ k + 1)
    → IsChain links a (range_with_len a n)
range_chain links a zero e next = omega arith
range_chain links a (suc n) e next = (refl, omega arith, rw (next a (omega arith)) (range_chain links (a + 1) n (omega arith) next))

-- all positions are orphans
pub new_kept : (links : List ℕ) (es : List Ends) (n : ℕ) → es ≡ [] → length links ≡ n → n ≤ none
    → ((k : ℕ) → k < n → get_or links k 0 ≡ k + 1) → IsKept links es 0 (range_with_len 0 n) []
new_kept links es n q e s next =
    let r = length-range_with_len 0 n in let c = range_chain links 0 n (omega arith) (λ k h. next k (omega arith)) in
    rw q (record { small = omega arith; chain = c; sets_are = no_sets; once = λ x. omega (arith, range_once x 0 n); total = omega arith })

-- ---- room for more
-- the ends of an empty set, and the set
abbrev no_ends : Ends
no_ends = record { first = 4294967295; last = 4294967295 }

abbrev no_positions : List ℕ
no_positions = []

-- empty sets contribute nothing to a count
pub room_sum : (weight : List ℕ → ℕ) → weight [] ≡ 0 → (xss : List (List ℕ)) (n : ℕ)
    → sum_by weight (xss ++ replicate n []) ≡ sum_by weight xss
room_sum weight e xss n =
    let none = rw e at (sum_by-replicate {X = List ℕ} weight n no_positions) in
    omega (arith, sum_by-append weight xss (replicate n no_positions), none)

-- empty sets after the others
more_sets : {links : List ℕ} {es : List Ends} {xss : List (List ℕ)} (n : ℕ) → length links ≤ none → AreSets links es xss
    → AreSets links (es ++ replicate n no_ends) (xss ++ replicate n [])
more_sets zero h no_sets = no_sets
more_sets (suc n) h no_sets = one_more (h, tt) (more_sets n h no_sets)
more_sets n h (one_more s k) = one_more s (more_sets n h k)

pub room_kept : {links : List ℕ} {es es' : List Ends} {o : ℕ} {os : List ℕ} {xss : List (List ℕ)} (places n : ℕ)
    → IsKept links es o os xss → length es ≤ places → es' ≡ take places es ++ replicate n (record { first = 4294967295; last = 4294967295 })
    → IsKept links es' o os (xss ++ replicate n [])
room_kept {xss = xss} places n k h r =
    let s = more_sets n k.small k.sets_are in
    let t = rw (← room_sum length refl xss n) at k.total in rw (r, take_all places _ h)
    (record { small = k.small; chain = k.chain; sets_are = s; once = λ x. rw (room_sum (count x) refl xss n) (k.once x); total = t })
