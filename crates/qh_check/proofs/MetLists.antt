-- Lists that are met along others: from one id to the next, and to the end.
use Rattle.qh_model.proofs.Common.{ℕ, ◌≡◌, ◌≢◌, ◌+◌, ◌<◌, ◌≤◌}
use Rattle.qh_model.proofs.Common.{arith, subst, inl, inr, List, [], ◌∷◌, ◌++◌, length, get_or, drop, cases_lt, append-nil, drop_more, drop_all, ◌↔◌, ⊎_elim}
use Rattle.qh_check.specs.contract.Pieces.{IsMetAlong}

-- a list without its first member is met if the list is met
met_less : (u : ℕ) (p q : List ℕ) → IsMetAlong (u ∷ p) q → IsMetAlong p q
met_less u [] q h = tt
met_less u (w ∷ p) [] h = absurd h
met_less u (w ∷ p) (v ∷ q) (inl h) = inr h.1
met_less u (w ∷ p) (v ∷ q) (inr h) = inr (met_less u (w ∷ p) q h)

-- the first member is met here
pub met_here : (u v : ℕ) (p q : List ℕ) → u ≡ v → IsMetAlong p q ↔ IsMetAlong (u ∷ p) (v ∷ q)
met_here u v p q e = (λ h. inl (e, h), ⊎_elim (λ h. h.1) (met_less u p q))

-- the first member is not met here
pub met_later : (u v : ℕ) (p q : List ℕ) → u ≢ v → IsMetAlong (u ∷ p) q ↔ IsMetAlong (u ∷ p) (v ∷ q)
met_later u v p q n = (λ h. inr h, ⊎_elim (λ h. absurd (n h.0)) (λ h. h))

-- one step along the ids, at which the next member of the list is met
pub met_step : (part ids : List ℕ) (next k : ℕ) (B : List ℕ → Type 0) → k < length ids → next < length part
    → get_or part next 0 ≡ get_or ids k 0 → ((rest : List ℕ) → IsMetAlong (drop next part) (drop k ids ++ rest) ↔ B rest)
    → (rest : List ℕ) → IsMetAlong (drop (next + 1) part) (drop (k + 1) ids ++ rest) ↔ B rest
met_step part ids next k B l m e h rest =
    let here = met_here (get_or part next 0) (get_or ids k 0) (drop (next + 1) part) (drop (k + 1) ids ++ rest) e in
    let both = rw (drop_more ids k 0 l, drop_more part next 0 m) at (h rest) in
    (λ a. both.0 (here.0 a), λ b. here.1 (both.1 b))

-- one step along the ids, at which the next member of the list is not met
pub met_skip : (part ids : List ℕ) (next k : ℕ) (B : List ℕ → Type 0) → k < length ids
    → ¬ ((next < length part) × (get_or part next 0 ≡ get_or ids k 0)) → ((rest : List ℕ) → IsMetAlong (drop next part) (drop k ids ++ rest) ↔ B rest)
    → (rest : List ℕ) → IsMetAlong (drop next part) (drop (k + 1) ids ++ rest) ↔ B rest
met_skip part ids next k B l n h rest =
    let now = rw (drop_more ids k 0 l) at (h rest) in elim (cases_lt next (length part)) [
      | inl m ↦
          let both = rw (drop_more part next 0 m) at now in
          let later = met_later (get_or part next 0) (get_or ids k 0) (drop (next + 1) part) (drop (k + 1) ids ++ rest) (λ e. n (m, e)) in
          rw (drop_more part next 0 m) (λ a. both.0 (later.0 a), λ b. later.1 (both.1 b))
      | inr m ↦ let both = rw (drop_all next part m) at now in rw (drop_all next part m) (λ a. both.0 tt, λ b. tt)
    ]

-- along the empty list only the empty list is met
met_nothing : (part : List ℕ) (k : ℕ) → IsMetAlong (drop k part) [] → length part ≤ k
met_nothing part k h = elim (cases_lt k (length part)) [ inl l ↦ absurd (subst (λ xs. IsMetAlong xs []) (drop_more part k 0 l) h) | inr l ↦ l ]

-- a list is met along two joined lists if its rest after both is empty
pub met_both : (part xs ys : List ℕ) (m n : ℕ)
    → ((rest : List ℕ) → IsMetAlong (drop m part) rest ↔ IsMetAlong (drop 0 part) (xs ++ rest))
    → ((rest : List ℕ) → IsMetAlong (drop n part) rest ↔ IsMetAlong (drop m part) (ys ++ rest))
    → n ≤ length part → (n ≡ length part) ↔ IsMetAlong part (xs ++ ys)
met_both part xs ys m n f g le =
    let rest = rw (append-nil ys) at (g []) in let all = f ys in
    (λ e. all.0 (rest.0 (rw (drop_all n part (omega (arith, e))) tt)), λ h. omega (arith, met_nothing part n (rest.1 (all.1 h)), le))
