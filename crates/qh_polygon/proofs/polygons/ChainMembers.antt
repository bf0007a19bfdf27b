-- The members of a chain, and the ids under its edges.
use Rattle.qh_model.proofs.Common.{◌≡◌, ℕ, refl, List, [], ◌∷◌, arith, sym, subst, ◌⊎◌, inl, inr, ints, by_lt_z, ℤ, pos, ◌≤ℤ◌, ◌<ℤ◌, In, Once}
use Rattle.qh_model.proofs.algebra.{Order.le_antisym, Signs.less_differ, Signs.not_less}
use Rattle.qh_polygon.proofs.polygons.{Cycles.bottom, TurnLaws.HasOnLeft, TurnLaws.IsChain, TurnLaws.chain_top}

-- ---- the members of a stack
module _ (turn : ℕ → ℕ → ℕ → ℤ) (key : ℕ → ℤ) (A : ℕ → Type 0) where
  -- no member has a lower key
  abbrev pub Least : ℕ → Type 0
  Least v = (x : ℕ) → A x → key v ≤ℤ key x

  -- an edge into v from before it
  pub record Under (v : ℕ) : Type 0 where
    pub u : ℕ
    pub is : A u
    pub before : key u <ℤ key v
    pub edge : HasOnLeft turn A u v

  -- a turn at v
  pub record Inside (v : ℕ) : Type 0 where
    pub q : ℕ
    pub t : ℕ
    pub is_q : A q
    pub is_t : A t
    pub before : key q <ℤ key v
    pub after : key v <ℤ key t
    pub sharp : pos 0 <ℤ turn q v t

  -- an edge over e
  pub record Span (e : ℕ) (s : List ℕ) : Type 0 where
    pub u : ℕ
    pub v : ℕ
    pub has_u : In u s
    pub has_v : In v s
    pub is_u : A u
    pub is_v : A v
    pub before : key u <ℤ key e
    pub after : key e <ℤ key v
    pub edge : HasOnLeft turn A u v

  -- the members of a chain were processed
  pub chain-in : (t : ℕ) (s : List ℕ) → IsChain turn key A t s → (v : ℕ) → In v (t ∷ s) → A v
  chain-in t s g v (inl e) = subst A (sym e) (chain_top turn key A t s g)
  chain-in t [] g v (inr i) = absurd i
  chain-in t (r ∷ s) g v (inr i) = chain-in r s g.4 v i

  -- the others are below its top
  pub chain-below : (t : ℕ) (s : List ℕ) → IsChain turn key A t s → (v : ℕ) → In v s → key v <ℤ key t
  chain-below t [] g v i = absurd i
  chain-below t (r ∷ s) g v (inl e) = subst (λ x. key x <ℤ key t) (sym e) g.1
  chain-below t (r ∷ s) g v (inr i) = let l = chain-below r s g.4 v i in let k = g.1 in omega (arith, ints)

  -- each occurs once
  pub chain-once : (t : ℕ) (s : List ℕ) → IsChain turn key A t s → Once (t ∷ s)
  chain-once t [] g = (λ i. i, tt)
  chain-once t (r ∷ s) g = (λ i. less_differ _ _ (chain-below t (r ∷ s) g t i) refl, chain-once r s g.4)

  -- the last is the least
  pub chain-bottom : (t : ℕ) (s : List ℕ) → IsChain turn key A t s → A (bottom t s) × Least (bottom t s)
  chain-bottom t [] g = g
  chain-bottom t (r ∷ s) g = chain-bottom r s g.4

  -- a member is the least or has an edge into it
  pub under : (t : ℕ) (s : List ℕ) → IsChain turn key A t s → (v : ℕ) → In v (t ∷ s) → Least v ⊎ Under v
  under t [] g v (inl e) = inl (subst Least (sym e) g.1)
  under t [] g v (inr i) = absurd i
  under t (r ∷ s) g v (inl e) = inr (subst Under (sym e) (record { u = r; is = chain_top turn key A r s g.4; before = g.1; edge = g.2 }))
  under t (r ∷ s) g v (inr i) = under r s g.4 v i

  -- a member below the top is the least or has a turn
  pub inside : (t : ℕ) (s : List ℕ) → IsChain turn key A t s → (v : ℕ) → In v s → Least v ⊎ Inside v
  inside t [] g v i = absurd i
  inside t (r ∷ []) g v (inl e) = inl (subst Least (sym e) g.4.1)
  inside t (r ∷ q ∷ s) g v (inl e) =
      inr (subst Inside (sym e) (record { q = q; t = t; is_q = chain_top turn key A q s g.4.4; is_t = g.0; before = g.4.1; after = g.1; sharp = g.3 }))
  inside t (r ∷ s) g v (inr i) = inside r s g.4 v i

  -- an id that is not a member lies under an edge
  pub span : ((x y : ℕ) → A x → A y → key x ≡ key y → x ≡ y) → (t : ℕ) (s all : List ℕ) → IsChain turn key A t s → ((x : ℕ) → In x (t ∷ s) → In x all)
      → (e : ℕ) → A e → (In e (t ∷ s) → ⊥) → key e <ℤ key t → Span e all
  span same t [] all g into e ae out lt = absurd (not_less (key e) (key t) lt (g.1 e ae))
  span same t (r ∷ s) all g into e ae out lt = let is_r = chain_top turn key A r s g.4 in
      by_lt_z (key e) (key r) (span same r s all g.4 (λ x i. into x (inr i)) e ae (λ i. out (inr i))) (λ k. by_lt_z (key r) (key e)
      (λ l. record {
        u = r;
        v = t;
        has_u = into r (inr (inl refl));
        has_v = into t (inl refl);
        is_u = is_r;
        is_v = g.0;
        before = l;
        after = lt;
        edge = g.2;
      })
      (λ l. absurd (out (inr (inl (same e r ae is_r (le_antisym (key e) (key r) l k)))))))
