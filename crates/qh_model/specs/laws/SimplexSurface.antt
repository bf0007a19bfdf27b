-- The first surface: the four facets of a tetrahedron.
use Rattle.std.specs.Prelude.{◌≡◌, ℕ, ◌⊎◌, [], ◌∷◌, pos, ◌<ℤ◌}
use Rattle.qh_model.specs.contract.{Surface.Surface, Surface.IsCorner, Surface.rise, Weighted.Weighted, Simplex.by_side, Simplex.one_of}
use Rattle.qh_model.specs.{contract.Surface.Side.first, contract.Surface.Side.second, contract.Surface.Side.third, headline.Sets.In}

-- each facet lacks one id, strictly below it, and has the others
pub record IsSimplexBoundary (m : Surface) (home : ℕ → Weighted) : Type 0 where
  pub missing : ℕ → ℕ
  pub covers : (f g : ℕ) → In f m.live → In g m.live → (l : ℕ) → IsCorner m g l → IsCorner m f l ⊎ (l ≡ missing f)
  pub known : (f g : ℕ) → In f m.live → In g m.live → IsCorner m f (missing g) ⊎ (missing g ≡ missing f)
  pub below : (f : ℕ) → In f m.live → rise m home f (home (missing f)) <ℤ pos 0
  pub once : (f g : ℕ) → In f m.live → In g m.live → missing f ≡ missing g → f ≡ g

-- the facets a b c, a d b, a c d and b d c, with their twins
abbrev pub simplex_surface : ℕ → ℕ → ℕ → ℕ → Surface
simplex_surface a b c d =
    record {
      live = 0 ∷ 1 ∷ 2 ∷ 3 ∷ [];
      i = one_of a a a b;
      j = one_of b d c d;
      k = one_of c b d c;
      over = one_of (by_side 1 3 2) (by_side 2 3 0) (by_side 0 3 1) (by_side 1 2 0);
      back = one_of (by_side third third first) (by_side third first first) (by_side third second first) (by_side second second second);
    }
