-- The spans of nodes.
use Rattle.qh_model.proofs.Common.{InSpan, ap, arith, dite, inl, inr, parent, refl, suc, zero, ℕ, ℕ_discrete, ⊎_elim, ◌*◌, ◌+◌, ◌-◌, ◌<◌, ◌∙◌, ◌≡◌, ◌≤◌, ◌⊎◌}
use Rattle.qh_model.specs.contract.BoardMachine.{ancestor}
use Rattle.qh_model.specs.laws.BoardLaws.{SpanOfLeaf, SpanOfNode, SpanOfRoot, SpansApart}

-- a node's ancestor is not greater, and a higher ancestor is at most half of the node
no_greater : (k n : ℕ) → ancestor k n ≤ n
no_greater zero n = omega arith
no_greater (suc k) n = let h = no_greater k n in omega arith

-- a number of steps in two parts
ancestor_more : (d k n : ℕ) → ancestor (d + k) n ≡ ancestor d (ancestor k n)
ancestor_more zero k n = ap (λ (z : ℕ). ancestor z n) (omega arith)
ancestor_more (suc d) k n = let e : suc d + k ≡ suc (d + k) = omega arith in ap (λ (z : ℕ). ancestor z n) e ∙ ap parent (ancestor_more d k n)

-- the first step separately
ancestor_first : (k n : ℕ) → ancestor (suc k) n ≡ ancestor k (parent n)
ancestor_first zero n = refl
ancestor_first (suc k) n = ap parent (ancestor_first k n)

-- the parent of an ancestor is at most half of it
half_below : (k l n : ℕ) → k < l → 2 * ancestor l n ≤ ancestor k n
half_below k l n h =
    let d : ℕ = l - suc k in
    let e : l ≡ suc d + k = omega arith in
    let m : ancestor l n ≡ parent (ancestor d (ancestor k n)) = ap (λ (z : ℕ). ancestor z n) e ∙ ancestor_more (suc d) k n in
    let s = no_greater d (ancestor k n) in omega arith

-- the root is above each node except 0
to_root : (n m : ℕ) → m ≤ n → 0 < m → (k : ℕ) × (ancestor k m ≡ 1)
to_root zero m h lo = absurd (omega arith)
to_root (suc n) m h lo = dite (ℕ_discrete m 1)
    (λ e. (0, e)) (λ ne. let t = to_root n (parent m) (omega arith) (omega arith) in (suc t.0, ancestor_first t.0 m ∙ t.1))

pub span_of_leaf : SpanOfLeaf
span_of_leaf = grind (arith, no_greater)

pub span_of_node : SpanOfNode
span_of_node B i j lo hi = (
  down,
  ⊎_elim (λ (t : InSpan B (2 * i) j). (t.0, (suc t.1.0, ap parent t.1.1 ∙ omega arith)))
      (λ (t : InSpan B (2 * i + 1) j). (t.0, (suc t.1.0, ap parent t.1.1 ∙ omega arith))),
)
  where
    down : InSpan B i j → InSpan B (2 * i) j ⊎ InSpan B (2 * i + 1) j
    down (lt, (zero, e)) = absurd (omega arith)
    down (lt, (suc k, e)) = dite (ℕ_discrete (ancestor k (B + j)) (2 * i)) (λ q. inl (lt, (k, q))) (λ ne. inr (lt, (k, omega arith)))

pub spans_apart : SpansApart
spans_apart = grind (arith, half_below)

pub span_of_root : SpanOfRoot
span_of_root B j = ((λ t. t.0), λ h. (h, to_root (B + j) (B + j) (omega arith) (omega arith)))
