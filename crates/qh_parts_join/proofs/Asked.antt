-- A loop that tests each live facet.
use Rattle.qh_model.proofs.Common.{◌≡◌, ℕ, ◌⊎◌, inl, inr, List, [], ◌∷◌, sym, subst, refl, In}

-- the facets that remain are live, and the others were tested
pub record AreAsked (P : ℕ → Type 0) (live left : List ℕ) : Type 0 where
  pub live_left : (f : ℕ) → In f left → In f live
  pub asked : (f : ℕ) → In f live → In f left ⊎ P f

-- at the start all facets remain
pub asking_starts : (P : ℕ → Type 0) (live left : List ℕ) → left ≡ live → AreAsked P live left
asking_starts P live left e = record { live_left = λ f i. subst (In f) e i; asked = λ f i. inl (subst (In f) (sym e) i) }

module _ (P : ℕ → Type 0) (live all left : List ℕ) (f : ℕ) (a : AreAsked P live all) (is : all ≡ f ∷ left) where
  -- the next facet is live
  pub next_live : In f live
  next_live = a.live_left f (subst (In f) (sym is) (inl refl))

  -- after its test one facet fewer remains
  pub asking_goes : P f → AreAsked P live left
  asking_goes p = record {
    live_left = λ g i. a.live_left g (subst (In g) (sym is) (inr i));
    asked = λ g i. elim (a.asked g i) [ inr q ↦ inr q | inl m ↦ elim (subst (In g) is m) [ inl e ↦ inr (subst P (sym e) p) | inr r ↦ inl r ] ];
  }

-- at the end all facets were tested
pub asking_ends : (P : ℕ → Type 0) (live left : List ℕ) → AreAsked P live left → left ≡ [] → (f : ℕ) → In f live → P f
asking_ends P live left a e f i = elim (a.asked f i) [ inl m ↦ absurd (subst (In f) e m) | inr p ↦ p ]
