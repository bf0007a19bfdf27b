-- Polygons in order, pairwise.
use Rattle.qh_model.proofs.Common.{◌≡◌, ◌≢◌, ℕ, zero, suc, ◌+◌, ◌-◌, ◌<◌, ◌≤◌, arith, sym, subst, ◌∙◌, inl, inr, List, [], ◌∷◌, length, get_or, take, min}
use Rattle.qh_model.proofs.Common.{get_or_default, cases_lt, ◌↔◌, ComesBefore, RisesFrom, RiseStrictly}
use Rattle.qh_bodies.specs.contract.Order.{IsOutOfOrder}

-- a list in which each element comes before the next rises
pub rises : (qs : List (List ℕ))
    → ((n : ℕ) → n + 1 < length qs → ComesBefore (get_or qs n []) (get_or qs (n + 1) [])) → RiseStrictly qs
rises [] h = tt
rises (q ∷ qs) h = from q qs h
  where
    from : (p : List ℕ) (ps : List (List ℕ))
        → ((n : ℕ) → n + 1 < length (p ∷ ps) → ComesBefore (get_or (p ∷ ps) n []) (get_or (p ∷ ps) (n + 1) []))
        → RisesFrom p ps
    from p [] h = tt
    from p (r ∷ ps) h = (
      h 0 (omega arith),
      from r ps (λ n l. (let e : suc n + 1 ≡ suc (n + 1) = omega arith in
          subst (λ m. ComesBefore (get_or (r ∷ ps) n []) (get_or (p ∷ r ∷ ps) m [])) e (h (suc n) (omega arith)))),
    )

-- ---- two lists that agree so far
-- the numbers at the first difference decide
pub before_at : (k : ℕ) (p q : List ℕ) → take k p ≡ take k q → k < length p → k < length q → get_or p k 0 ≢ get_or q k 0
    → (get_or p k 0 < get_or q k 0) ↔ ComesBefore p q
before_at k [] q same l m n = absurd (omega arith)
before_at k (u ∷ p) [] same l m n = absurd (omega arith)
before_at zero (u ∷ p) (v ∷ q) same l m n = (λ h. inl h, back)
  where
    back : ComesBefore (u ∷ p) (v ∷ q) → u < v
    back (inl h) = h
    back (inr h) = absurd (n h.0)
before_at (suc k) (u ∷ p) (v ∷ q) same l m n =
    next (cc (same)) (before_at k p q (cc (same)) (omega arith) (omega arith) n)
  where
    next : u ≡ v → (get_or p k 0 < get_or q k 0) ↔ ComesBefore p q
        → (get_or p k 0 < get_or q k 0) ↔ ComesBefore (u ∷ p) (v ∷ q)
    next e h = (λ x. inr (e, h.0 x), back)
      where
        back : ComesBefore (u ∷ p) (v ∷ q) → get_or p k 0 < get_or q k 0
        back (inl x) = absurd (omega (arith, e, x))
        back (inr x) = h.1 x.1

-- if one list has ended, the lengths decide
pub before_end : (k : ℕ) (p q : List ℕ) → take k p ≡ take k q → k ≡ min (length p) (length q)
    → (length p < length q) ↔ ComesBefore p q
before_end k [] [] same e = (λ h. absurd (omega arith), λ h. absurd h)
before_end k [] (v ∷ q) same e = (λ h. tt, λ h. omega arith)
before_end k (u ∷ p) [] same e = (λ h. absurd (omega arith), λ h. absurd h)
before_end zero (u ∷ p) (v ∷ q) same e = absurd (omega arith)
before_end (suc k) (u ∷ p) (v ∷ q) same e = next (cc (same)) (before_end k p q (cc (same)) (omega arith))
  where
    next : u ≡ v → (length p < length q) ↔ ComesBefore p q
        → (length (u ∷ p) < length (v ∷ q)) ↔ ComesBefore (u ∷ p) (v ∷ q)
    next e h = (λ x. inr (e, h.0 (omega (arith, x))), back)
      where
        longer : length p < length q → length (u ∷ p) < length (v ∷ q)
        longer x = omega (arith, x)

        back : ComesBefore (u ∷ p) (v ∷ q) → length (u ∷ p) < length (v ∷ q)
        back (inl x) = absurd (omega (arith, e, x))
        back (inr x) = longer (h.1 x.1)

-- ---- one more pair
module _ (qs : List (List ℕ)) (k : ℕ) (p q : List ℕ) (some : 1 ≤ k) (l : k < length qs) (e : p ≡ get_or qs (k - 1) p)
    (f : q ≡ get_or qs k q) where
  before : p ≡ get_or qs (k - 1) []
  before = e ∙ get_or_default qs (k - 1) p [] (omega arith)

  own : q ≡ get_or qs k []
  own = f ∙ get_or_default qs k q [] l

  abbrev Rises : ℕ → ℕ → Type 0
  Rises i j = ComesBefore (get_or qs i []) (get_or qs j [])

  pub ordered_more : ComesBefore p q → ((n : ℕ) → n + 1 < k → Rises n (n + 1)) → (n : ℕ) → n + 1 < k + 1 → Rises n (n + 1)
  ordered_more = grind (arith, cases_lt, own, before)

  pub unordered : ¬ (ComesBefore p q) → IsOutOfOrder qs (k - 1)
  unordered n = (
    omega arith,
    λ b. n (subst (λ r. ComesBefore r q) (sym before)
        (subst (ComesBefore (get_or qs (k - 1) [])) (sym own) (subst (Rises (k - 1)) next b))),
  )
    where
      next : k - 1 + 1 ≡ k
      next = omega arith
