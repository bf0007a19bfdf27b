-- One step of Quickhull: the facets that see a point are replaced by its cone over their horizon.
-- Source: Barber, Dobkin and Huhdanpaa 1996, the Beneath-Beyond step.
use Rattle.std.specs.Prelude.{◌≡◌, ℕ, ◌⊎◌}
use Rattle.qh_model.specs.contract.Surface.{Side, Surface, start, end, Sees, IsBlindTo}
use Rattle.qh_model.specs.{contract.Weighted.Weighted, contract.Surface.Side.first, contract.Surface.Side.second, contract.Surface.Side.third, headline.Sets.In}

-- a horizon side: its facet sees p, and the neighbour across it does not
pub record IsHorizonSide (m : Surface) (home : ℕ → Weighted) (p : Weighted) (f : ℕ) (s : Side) : Type 0 where
  pub live : In f m.live
  pub seen : Sees m home f p
  pub blind : IsBlindTo m home (m.over f s) p

-- the facet is live and has the same corners as before
pub record KeepsCorners (m m' : Surface) (f : ℕ) : Type 0 where
  pub live : In f m'.live
  pub i_is : m'.i f ≡ m.i f
  pub j_is : m'.j f ≡ m.j f
  pub k_is : m'.k f ≡ m.k f

-- the facet is live and has the corners u, v, p
pub record IsTriangle (m' : Surface) (f' u v p : ℕ) : Type 0 where
  pub live : In f' m'.live
  pub i_is : m'.i f' ≡ u
  pub j_is : m'.j f' ≡ v
  pub k_is : m'.k f' ≡ p

-- side t of g is the twin of side s of f
pub record LinksTo (m' : Surface) (f : ℕ) (s : Side) (g : ℕ) (t : Side) : Type 0 where
  pub over_is : m'.over f s ≡ g
  pub back_is : m'.back f s ≡ t

-- m' is m with the facets that see p replaced by its cone: each new facet is a kept one or lies on a horizon side, and the ends of the horizon sides determine
-- the twins
pub record IsRewired (m m' : Surface) (home : ℕ → Weighted) (p : ℕ) : Type 0 where
  pub number : ℕ → Side → ℕ
  pub f0 : ℕ
  pub live : In f0 m.live
  pub seen : Sees m home f0 (home p)
  pub only : (f' : ℕ) → In f' m'.live
      → (In f' m.live × (IsBlindTo m home f' (home p))) ⊎ ((f : ℕ) × (s : Side) × IsHorizonSide m home (home p) f s × (f' ≡ number f s))
  pub kept : (f : ℕ) → In f m.live → IsBlindTo m home f (home p) → KeepsCorners m m' f
  pub cone : (f : ℕ) (s : Side) → IsHorizonSide m home (home p) f s → IsTriangle m' (number f s) (start m f s) (end m f s) p
  pub inside : (f : ℕ) (s : Side) → In f m.live → IsBlindTo m home f (home p) → IsBlindTo m home (m.over f s) (home p)
      → LinksTo m' f s (m.over f s) (m.back f s)
  pub outside : (f : ℕ) (s : Side) → In f m.live → IsBlindTo m home f (home p) → Sees m home (m.over f s) (home p)
      → LinksTo m' f s (number (m.over f s) (m.back f s)) first
  pub base : (f : ℕ) (s : Side) → IsHorizonSide m home (home p) f s → LinksTo m' (number f s) first (m.over f s) (m.back f s)
  pub next : (f : ℕ) (s : Side) (g : ℕ) (t : Side) → IsHorizonSide m home (home p) f s → IsHorizonSide m home (home p) g t
      → start m g t ≡ end m f s → LinksTo m' (number f s) second (number g t) third
  pub prev : (f : ℕ) (s : Side) (g : ℕ) (t : Side) → IsHorizonSide m home (home p) f s → IsHorizonSide m home (home p) g t
      → end m g t ≡ start m f s → LinksTo m' (number f s) third (number g t) second
