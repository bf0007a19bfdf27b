-- The chain of a rising list: its edges have all processed ids on their left, and it turns left at each corner.
use Rattle.qh_model.proofs.Common.{◌≡◌, ℕ, refl, List, [], ◌∷◌, arith, ap, sym, subst, ◌⊎◌, inl, inr, true, false, cond, ints, by_lt_z, ℤ, pos, ◌≤ℤ◌}
use Rattle.qh_model.proofs.Common.{◌<ℤ◌, ◌↔◌, In}
use Rattle.qh_model.proofs.algebra.{Order.le_antisym, Order.positive_le, Signs.not_less, Signs.less_le, Signs.equal_le}
use Rattle.qh_polygon.specs.steps.Chains.{is_left, kept_below, chain}
use Rattle.qh_polygon.proofs.polygons.TurnLaws.{RisesBy, TurnLaws, TurnsAt, HasOnLeft, IsChain, Added, chain_top}

-- the property that pops preserve
abbrev IsCapped : (ℕ → ℕ → ℕ → ℤ) → (ℕ → ℤ) → (ℕ → Type 0) → ℕ → ℕ → Type 0
IsCapped turn key D y t = (x : ℕ) → D x → key t <ℤ key x → pos 0 ≤ℤ turn t y x

-- a turn to the left is above 0
pub is_left-yes : (z : ℤ) → is_left z ≡ true → pos 0 <ℤ z
is_left-yes = grind arith

-- any other turn is not
pub is_left-no : (z : ℤ) → is_left z ≡ false → z ≤ℤ pos 0
is_left-no = grind arith

-- a stack that may remain after pops
record Top (turn : ℕ → ℕ → ℕ → ℤ) (key : ℕ → ℤ) (D : ℕ → Type 0) (y : ℕ) (s : List ℕ) : Type 0 where
  top : ℕ
  rest : List ℕ
  is : s ≡ top ∷ rest
  good : IsChain turn key D top rest
  capped : IsCapped turn key D y top
  sharp : TurnsAt turn y top rest

-- the result of a chain
pub record IsChained (turn : ℕ → ℕ → ℕ → ℤ) (key : ℕ → ℤ) (D : ℕ → Type 0) (s : List ℕ) : Type 0 where
  pub top : ℕ
  pub rest : List ℕ
  pub is : s ≡ top ∷ rest
  pub good : IsChain turn key D top rest
  pub greatest : (x : ℕ) → D x → key x ≤ℤ key top

module _ (turn : ℕ → ℕ → ℕ → ℤ) (key : ℕ → ℤ) (A : ℕ → Type 0) (turn_laws : TurnLaws turn key A) where
  -- y comes after all processed ids
  module _ (D : ℕ → Type 0) (in_a : (x : ℕ) → D x → A x) (y : ℕ) (ay : A y) (below : (x : ℕ) → D x → key x <ℤ key y) where
    -- the pops end at a top over which the path turns left; each leaves the cap over the edge that it ended
    pops : (t : ℕ) (s : List ℕ) → IsChain turn key D t s → IsCapped turn key D y t → Top turn key D y (kept_below turn y t s)
    pops t [] g c = record { top = t; rest = []; is = refl; good = g; capped = c; sharp = tt }
    pops t (r ∷ s) g c = let dr = chain_top turn key D r s g.4 in
        elim (is_left (turn r t y)) as (λ b. is_left (turn r t y) ≡ b → Top turn key D y (cond b (t ∷ r ∷ s) (kept_below turn y r s))) [
          | true ↦ λ e. record { top = t; rest = r ∷ s; is = refl; good = g; capped = c; sharp = is_left-yes _ e }
          | false ↦ λ e. pops r s g.4 (λ x dx h. turn_laws.about r t x y (in_a r dr) (in_a t g.0) (in_a x dx) ay g.1 h (below r dr) (is_left-no _ e) (g.2 x dx))
        ] refl

    -- the old edges have y on their left
    edge-more : (r t : ℕ) → HasOnLeft turn D r t → pos 0 <ℤ turn r t y → HasOnLeft turn (Added D y) r t
    edge-more = grind arith

    -- if the path turns left over a top, it does so over each one below
    sharp-down : (t r : ℕ) (s : List ℕ) → D t → key r <ℤ key t → TurnsAt turn t r s → IsChain turn key D r s → pos 0 <ℤ turn r t y → TurnsAt turn y r s
    sharp-down t r [] dt lt sh g h = tt
    sharp-down t r (q ∷ s) dt lt sh g h =
        turn_laws.onward q r t y (in_a q (chain_top turn key D q s g.4)) (in_a r g.0) (in_a t dt) ay g.1 lt (below r g.0) sh (positive_le _ h)

    -- the chain has y on its left, too
    lift : (t : ℕ) (s : List ℕ) → IsChain turn key D t s → TurnsAt turn y t s → IsChain turn key (Added D y) t s
    lift t [] g sh = (inr g.0, λ x. elim [ inl e ↦ subst (λ v. key t ≤ℤ key v) (sym e) (less_le (key t) (key y) (below t g.0)) | inr d ↦ g.1 x d ])
    lift t (r ∷ s) g sh = (inr g.0, g.1, edge-more r t g.2 sh, g.3, lift r s g.4 (sharp-down t r s g.0 g.1 g.3 g.4 sh))

    -- the new edge has all ids passed before on its left
    behind-edge : (t : ℕ) (s : List ℕ) → IsChain turn key D t s → TurnsAt turn y t s → (x : ℕ) → D x → key x <ℤ key t → pos 0 ≤ℤ turn t y x
    behind-edge t [] g sh x d h = absurd (not_less (key x) (key t) h (g.1 x d))
    behind-edge t (r ∷ s) g sh x d h =
        turn_laws.behind r t x y (in_a r (chain_top turn key D r s g.4)) (in_a t g.0) (in_a x d) ay h g.1 (below t g.0) (g.2 x d) (positive_le _ sh)

    -- the new edge has all processed ids on its left
    new-edge : (t : ℕ) (s : List ℕ) → IsChain turn key D t s → IsCapped turn key D y t → TurnsAt turn y t s → HasOnLeft turn (Added D y) t y
    new-edge t s g c sh x (inl e) = subst (λ v. pos 0 ≤ℤ turn t y v) (sym e) (omega (arith, ints, turn_laws.there t y))
    new-edge t s g c sh x (inr d) =
        by_lt_z (key x) (key t) (behind-edge t s g sh x d) (λ k. by_lt_z (key t) (key x) (c x d)
        (λ m. let e = turn_laws.same x t (in_a x d) (in_a t (chain_top turn key D t s g)) (le_antisym (key x) (key t) m k) in
        subst (λ v. pos 0 ≤ℤ turn t y v) (sym e) (omega (arith, ints, turn_laws.back t y))))

    -- the next id on the stack makes a chain for one more id
    pushes : (s : List ℕ) → (p : Top turn key D y s) → IsChain turn key (Added D y) y s
    pushes = grind (arith, chain_top, new-edge, lift)

  -- a chain for the processed ids is a chain for any set with the same members
  retold : (D : ℕ → Type 0) → ((x : ℕ) → D x → A x) → ((x : ℕ) → A x → D x) → (t : ℕ) (s : List ℕ) → IsChain turn key D t s → IsChain turn key A t s
  retold D f g t [] k = (f t k.0, λ x e. k.1 x (g x e))
  retold D f g t (r ∷ s) k = (f t k.0, k.1, λ x e. k.2 x (g x e), k.3, retold D f g r s k.4)

  -- the stack stays a chain for the processed ids, until these are all members
  chains : (D : ℕ → Type 0) (t : ℕ) (s xs : List ℕ) → ((x : ℕ) → D x → A x) → ((x : ℕ) → In x xs → A x) → ((x : ℕ) → A x → In x xs ⊎ D x)
      → IsChain turn key D t s → ((x : ℕ) → D x → key x ≤ℤ key t) → RisesBy key t xs → IsChained turn key A (chain turn (t ∷ s) xs)
  chains D t s [] in_a xs_a all g le r =
      let passed : (x : ℕ) → A x → D x = (λ x a. elim (all x a) [ inl i ↦ absurd i | inr d ↦ d ]) in
      record { top = t; rest = s; is = refl; good = retold D in_a passed t s g; greatest = λ x a. le x (passed x a) }
  chains D t s (y ∷ ys) in_a xs_a all g le r =
      let ay = xs_a y (inl refl) in
      let below : (x : ℕ) → D x → key x <ℤ key y = (λ x d. under (key x) (key t) (key y) (le x d) r.0) in
      chains (Added D y) y (kept_below turn y t s) ys (λ x. elim [ inl e ↦ subst A (sym e) ay | inr d ↦ in_a x d ]) (λ x i. xs_a x (inr i))
      (λ x a. elim (all x a) [ inl (inl e) ↦ inr (inl e) | inl (inr i) ↦ inl i | inr d ↦ inr (inr d) ])
      (pushes D in_a y ay below (kept_below turn y t s) (pops D in_a y ay below t s g (λ x d h. absurd (not_less (key t) (key x) h (le x d)))))
      (λ x. elim [ inl e ↦ equal_le (key x) (key y) (ap key e) | inr d ↦ less_le (key x) (key y) (below x d) ]) r.1
    where
      under : (a b c : ℤ) → a ≤ℤ b → b <ℤ c → a <ℤ c
      under a b c h k = omega (arith, ints)

-- the chain of a rising list
pub chain-good : (turn : ℕ → ℕ → ℕ → ℤ) (key : ℕ → ℤ) (A : ℕ → Type 0) → TurnLaws turn key A → (x₀ : ℕ) (xs : List ℕ)
    → ((x : ℕ) → In x (x₀ ∷ xs) ↔ A x) → RisesBy key x₀ xs → IsChained turn key A (chain turn [] (x₀ ∷ xs))
chain-good turn key A turn_laws x₀ xs l r =
    chains turn key A turn_laws (λ x. x ≡ x₀) x₀ [] xs (λ x e. (l x).0 (inl e)) (λ x i. (l x).0 (inr i))
    (λ x a. elim ((l x).1 a) [ inl e ↦ inr e | inr i ↦ inl i ])
    (refl, λ x e. equal_le (key x₀) (key x) (ap key (sym e))) (λ x e. equal_le (key x) (key x₀) (ap key e)) r
