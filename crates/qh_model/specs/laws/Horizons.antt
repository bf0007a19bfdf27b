-- The facets that a walk has found, and the horizon of the facets that a point sees.
use Rattle.std.specs.Prelude.{◌≡◌, ℕ, Bool, true, pos, ◌≤ℤ◌}
use Rattle.qh_model.specs.contract.Surface.{Side, Surface, start, end, Sees, IsBlindTo}
use Rattle.qh_model.specs.{contract.Weighted.Weighted, contract.Weighted.above, contract.Rewired.IsHorizonSide, headline.Sets.In}

-- a set c of facets that has one that p sees and, for each of its facets, every neighbour that p sees
pub record IsWalked (m : Surface) (home : ℕ → Weighted) (p : Weighted) (c : ℕ → Bool) : Type 0 where
  pub f0 : ℕ
  pub live : In f0 m.live
  pub seen : Sees m home f0 p
  pub has : c f0 ≡ true
  pub grows : (f : ℕ) → In f m.live → (s : Side) → c f ≡ true → Sees m home (m.over f s) p → c (m.over f s) ≡ true

-- P holds for some horizon side
pub record HasHorizonSide (m : Surface) (home : ℕ → Weighted) (p : Weighted) (P : ℕ → Side → Type 0) : Type 0 where
  pub f : ℕ
  pub s : Side
  pub edge : IsHorizonSide m home p f s
  pub is : P f s

-- q is seen by no facet of the cone from p over the horizon
abbrev pub IsConeUnseen : (m : Surface) (home : ℕ → Weighted) (p q : Weighted) → Type 0
IsConeUnseen m home p q = (f : ℕ) → In f m.live → (s : Side) → Sees m home f p → IsBlindTo m home (m.over f s) p
    → above (home (start m f s)) (home (end m f s)) p q ≤ℤ pos 0
