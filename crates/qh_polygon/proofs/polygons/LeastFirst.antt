-- A cycle that is rotated to its least id begins with it.
use Rattle.qh_model.proofs.Common.{◌≡◌, ℕ, zero, suc, ◌<◌, ◌≤◌, List, [], ◌∷◌, ◌++◌, length, get_or, take, drop, arith, sym, subst, inr, drop-cons}
use Rattle.qh_model.proofs.Common.{take-append-drop, Extreme, IsPolygon, TurnsLeft, In, BeginsWithLeast, Vector}
use Rattle.qh_model.proofs.{Members.in_at, polygons.Cycles.round_holds}
use Rattle.qh_polygon.proofs.polygons.GoesRound.{GoesRound, goes_round-rotate, in-rotate}

-- the least id is at m
pub least_first : (xs : List ℕ) (m : ℕ) → (0 < length xs → m < length xs)
    → ((k : ℕ) → k < length xs → get_or xs m 0 ≤ get_or xs k 0) → BeginsWithLeast (drop m xs ++ take m xs)
least_first [] zero p h = tt
least_first [] (suc m) p h = tt
least_first (x ∷ xs) m p h = let first = drop-cons (x ∷ xs) m 0 (p (omega arith)) in
    rw first (λ v i. let r = in_at (x ∷ xs) v
    (subst (In v) (take-append-drop m (x ∷ xs)) (in-rotate (drop m (x ∷ xs)) (take m (x ∷ xs)) v (rw first (inr i)))) in
    subst (λ t. get_or (x ∷ xs) m 0 ≤ t) r.2 (h r.0 r.1))

-- a list that goes round the extremes is their polygon once it is rotated to its least id, which is at m
pub polygon_of : (n : Vector) (at : ℕ → Vector) (A : ℕ → Type 0) (xs : List ℕ) (m : ℕ) (turned : List ℕ) → GoesRound n at A xs
    → (0 < length xs → m < length xs) → ((k : ℕ) → k < length xs → get_or xs m 0 ≤ get_or xs k 0)
    → turned ≡ drop m xs ++ take m xs → IsPolygon at (Extreme at A) n turned
polygon_of n at A xs m turned r p h e =
    let round = goes_round-rotate n at A (take m xs) (drop m xs) (subst (GoesRound n at A) (sym (take-append-drop m xs)) r) in
    subst (IsPolygon at (Extreme at A) n) (sym e)
    (record {
      members = round.members;
      once = round.once;
      round = round_holds (TurnsLeft at n (drop m xs ++ take m xs)) (drop m xs ++ take m xs) round.round;
      least = least_first xs m p h;
    })
