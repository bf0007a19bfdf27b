-- The positions that starts cover, and the results there.
use Rattle.{qh_pred.specs.contract.Planes.PlaneValue, qh_places.specs.declared.bundles.Bundle.Bundle, qh_places.specs.declared.places.TheConstants.LEAF}
use Rattle.qh_places.specs.{contract.Near.IsBegun, contract.Near.IsNearUpTo, steps.Levels.AreBelowAll, steps.Levels.HasLooked, steps.Levels.HasSeen}
use Rattle.qh_model.proofs.Common.{◌≡◌, ℕ, zero, suc, ◌+◌, ◌<◌, ◌≤◌, arith, sym, ap, subst, ◌∙◌, ◌⊎◌, inl, inr}
use Rattle.qh_model.proofs.Common.{List, [], ◌∷◌, ◌++◌, length, get_or, length-append, get_or-append_seam, get_or_default, get_or_append_left, cases_lt, Vector}

-- a position that is covered by the first starts is covered by more starts
more : (starts : List ℕ) (n m k : ℕ) → n ≤ m → IsBegun starts n k → IsBegun starts m k
more starts n m k l b = (b.0, omega (arith, l, b.1), b.2, b.3)

-- a position is covered by one of the starts, or by none
pub begun : (starts : List ℕ) (n k : ℕ) → IsBegun starts n k ⊎ ¬ (IsBegun starts n k)
begun starts zero k = inr (λ b. (let l = b.1 in absurd (omega (arith, l))))
begun starts (suc n) k = elim (begun starts n k) [
  | inl b ↦ inl (more starts n (suc n) k (omega arith) b)
  | inr f ↦ elim (cases_lt k (get_or starts n 0)) [
    | inl before ↦ inr (λ b. f (earlier b (λ e. (let l = subst (λ j. get_or starts j 0 ≤ k) e b.2 in omega (arith, l, before)))))
    | inr from ↦ elim (cases_lt k (get_or starts n 0 + LEAF)) [
      | inl within ↦ inl (n, omega arith, from, within)
      | inr beyond ↦ inr (λ b. f (earlier b (λ e. (let l = subst (λ j. k < get_or starts j 0 + LEAF) e b.3 in omega (arith, l, beyond)))))
    ]
  ]
]
  where
    earlier : (b : IsBegun starts (suc n) k) → (b.0 ≡ n → ⊥) → IsBegun starts n k
    earlier b other = elim (cases_lt b.0 n) [
      | inl l ↦ (b.0, l, b.2, b.3)
      | inr l ↦ (let same : b.0 ≡ n = omega (arith, b.1, l) in absurd (other same))
    ]

-- ---- the positions where planes of a bundle have to be tested
module _ (points : List Vector) (b : Bundle) where
  pub near_start : IsNearUpTo points b [] 0
  near_start plane o k l = absurd (omega arith)

  -- a block that is below all planes
  pub near_skip : (starts : List ℕ) (from size to : ℕ) → IsNearUpTo points b starts from
      → AreBelowAll points b from (from + size) → to ≤ from + size → IsNearUpTo points b starts to
  near_skip starts from size to h below w plane o k l m away = elim (cases_lt k from) [
    | inl x ↦ h plane o k x m away
    | inr x ↦ below plane o k x (omega arith) m
  ]

  -- one more start
  pub near_add : (starts : List ℕ) (from to : ℕ) → IsNearUpTo points b starts from → to ≤ from + LEAF
      → IsNearUpTo points b (starts ++ from ∷ []) to
  near_add starts from to h w plane o k l m away = elim (cases_lt k from) [
    | inl x ↦ h plane o k x m (λ g. away (kept g))
    | inr x ↦ absurd (away (own x))
  ]
    where
      long : length (starts ++ from ∷ []) ≡ length starts + 1
      long = length-append starts (from ∷ [])

      kept : IsBegun starts (length starts) k → IsBegun (starts ++ from ∷ []) (length (starts ++ from ∷ [])) k
      kept g =
          let e = get_or_append_left starts (from ∷ []) 0 g.0 g.1 in (
            g.0,
            omega (arith, g.1, long),
            subst (λ s. s ≤ k) (sym e) g.2,
            subst (λ s. k < s + LEAF) (sym e) g.3,
          )

      own : from ≤ k → IsBegun (starts ++ from ∷ []) (length (starts ++ from ∷ [])) k
      own x =
          let e = get_or-append_seam starts from [] 0 in (
            length starts,
            omega (arith, long),
            subst (λ s. s ≤ k) (sym e) x,
            subst (λ s. k < s + LEAF) (sym e) (omega arith),
          )

-- ---- the results of a plane, start by start
module _ (points : List Vector) (ids : List ℕ) (plane : PlaneValue) (starts : List ℕ) where
  pub seen_start : HasSeen points ids plane starts 0 []
  seen_start = record {
    below = λ k b l. (let m = b.1 in absurd (omega (arith, m)));
    lists = λ k b l e. (let m = b.1 in absurd (omega (arith, m)));
    only = λ i m. absurd m;
  }

  pub seen_goes : (n start : ℕ) (old found : List ℕ) → HasSeen points ids plane starts n old → n < length starts
      → start ≡ get_or starts n start → HasLooked points ids plane start (start + LEAF) old found → HasSeen points ids plane starts (n + 1) found
  seen_goes n start old found h l e look = record {
    below = λ k b m. elim (which k b) [ inl x ↦ h.below k x m | inr x ↦ look.below k x.0 x.1 m ];
    lists = λ k b m z. elim (which k b) [ inl x ↦ look.kept _ (h.lists k x m z) | inr x ↦ look.lists k x.0 x.1 m z ];
    only = look.only h.only;
  }
    where
      here : start ≡ get_or starts n 0
      here = e ∙ get_or_default starts n start 0 l

      which : (k : ℕ) → IsBegun starts (n + 1) k → IsBegun starts n k ⊎ ((start ≤ k) × (k < start + LEAF))
      which k b = elim (cases_lt b.0 n) [
        | inl x ↦ inl (b.0, x, b.2, b.3)
        | inr x ↦ (let same : b.0 ≡ n = omega (arith, b.1, x) in
            let is = ap (λ j. get_or starts j 0) same ∙ sym here in
            inr (subst (λ s. s ≤ k) is b.2, subst (λ s. k < s + LEAF) is b.3))
      ]

  pub seen_all : (n : ℕ) (found : List ℕ) → HasSeen points ids plane starts n found → length starts ≤ n
      → HasSeen points ids plane starts (length starts) found
  seen_all n found h l = record {
    below = λ k b m. h.below k (more starts (length starts) n k l b) m;
    lists = λ k b m e. h.lists k (more starts (length starts) n k l b) m e;
    only = h.only;
  }
