-- Facts about the distinct ids of a list of points.
use Rattle.qh_model.proofs.Common.{ℕ, zero, suc, ◌+◌, ◌<◌, ◌≤◌, List, [], ◌∷◌, length, get_or, add-one, arith, All, All-from_get_or, IsStrictlyIncreasing}
use Rattle.qh_model.proofs.Common.{HasDistinctPoints, AreDistinctIds, place, In, Members, Vector}
use Rattle.qh_model.proofs.Members.{In-get_or, in_at}

-- distinct ids are indices of points
pub ids_within : (pts : List Vector) (ids : List ℕ) → AreDistinctIds pts ids → All (λ i. i < length pts) ids
ids_within pts ids d = All-from_get_or (λ i. i < length pts) ids 0 (λ k h. ((d.members (get_or ids k 0)).0 (In-get_or ids k 0 h)).0)

-- a list with a point has a distinct id
pub some_id : (pts : List Vector) (ids : List ℕ) → AreDistinctIds pts ids → 0 < length pts → 0 < length ids
some_id pts ids d h = let r = in_at ids 0 ((d.members 0).1 (h, λ j l. absurd (omega (arith, l)))) in omega (arith, r.1)

-- the k-th of rising numbers is at least k
pub rising_least : (xs : List ℕ) → IsStrictlyIncreasing xs → (k : ℕ) → k < length xs → k ≤ get_or xs k 0
rising_least xs r zero h = omega arith
rising_least xs r (suc k) h =
    let before : k ≤ get_or xs k 0 = rising_least xs r k (omega arith) in
    let next : get_or xs k 0 < get_or xs (k + 1) 0 = r k (omega arith) in
    rw (← add-one k) (let up : k + 1 ≤ get_or xs (k + 1) 0 = omega (arith, before, next) in up)

-- there are at most n rising numbers below n
pub few_below : (n : ℕ) (xs : List ℕ) → IsStrictlyIncreasing xs → ((i : ℕ) → In i xs → i < n) → length xs ≤ n
few_below n [] r below = omega arith
few_below n (x ∷ xs) r below =
    let last : length xs ≤ get_or (x ∷ xs) (length xs) 0 = rising_least (x ∷ xs) r (length xs) (omega arith) in
    let small : get_or (x ∷ xs) (length xs) 0 < n = below _ (In-get_or (x ∷ xs) (length xs) 0 (omega arith)) in
    omega (arith, last, small)

-- the number of distinct ids is at most the number of points
pub few_ids : (pts : List Vector) (ids : List ℕ) → AreDistinctIds pts ids → length ids ≤ length pts
few_ids pts ids d = few_below (length pts) ids d.rising (λ i m. ((d.members i).0 m).0)

-- distinct ids have distinct points
pub distinct_apart : (pts : List Vector) (ids : List ℕ) → AreDistinctIds pts ids → HasDistinctPoints (place pts) (Members ids)
distinct_apart = grind arith
