-- Heights above facets, and facets in one plane.
use Rattle.qh_model.proofs.Common.{◌≡◌, ℕ, sym, ◌⊎◌, inl, inr, refl, pos, ◌≤ℤ◌, ◌<ℤ◌, weighted_at, Surface, rise, weighted, Vector, IsLevelWith, IsLevelFacet}
use Rattle.qh_model.proofs.algebra.Order.{zero_or_not}
use Rattle.qh_model.proofs.{algebra.Signs.equal_nonpos, algebra.Signs.equal_positive, surfaces.Facets.of_corners, surfaces.SurfaceLaws.rise_is_vol}
use Rattle.qh_laws.specs.contract.Seam.{height_over}

module _ (at : ℕ → Vector) (m : Surface) (f : ℕ) (p : Vector) where
  -- the height of points of space
  pub rise_is_height : rise m (weighted_at at) f (weighted p) ≡ height_over at m f p
  rise_is_height = rise_is_vol (at (m.i f)) (at (m.j f)) (at (m.k f)) p

  -- a point is not above a facet
  pub blind_rise : height_over at m f p ≤ℤ pos 0 → rise m (weighted_at at) f (weighted p) ≤ℤ pos 0
  blind_rise = equal_nonpos _ _ (sym rise_is_height)

  -- the converse
  pub blind_height : rise m (weighted_at at) f (weighted p) ≤ℤ pos 0 → height_over at m f p ≤ℤ pos 0
  blind_height = equal_nonpos _ _ rise_is_height

  -- a point is above a facet
  pub seen_rise : pos 0 <ℤ height_over at m f p → pos 0 <ℤ rise m (weighted_at at) f (weighted p)
  seen_rise = equal_positive _ _ (sym rise_is_height)

-- decides whether a facet is in the plane of another
pub level_or_not : (at : ℕ → Vector) (m : Surface) (f g : ℕ) → IsLevelFacet at m f g ⊎ (¬ (IsLevelFacet at m f g))
level_or_not at m f g = decide (test (m.i g)) (test (m.j g)) (test (m.k g))
  where
    test : (l : ℕ) → IsLevelWith at m f l ⊎ (¬ (IsLevelWith at m f l))
    test l = zero_or_not (height_over at m f (at l))

    decide : IsLevelWith at m f (m.i g) ⊎ (¬ (IsLevelWith at m f (m.i g))) → IsLevelWith at m f (m.j g) ⊎ (¬ (IsLevelWith at m f (m.j g)))
        → IsLevelWith at m f (m.k g) ⊎ (¬ (IsLevelWith at m f (m.k g))) → IsLevelFacet at m f g ⊎ (¬ (IsLevelFacet at m f g))
    decide (inl a) (inl b) (inl c) = inl (of_corners m g (IsLevelWith at m f) a b c)
    decide (inr n) b c = inr (λ h. n (h (m.i g) (inl refl)))
    decide (inl a) (inr n) c = inr (λ h. n (h (m.j g) (inr (inl refl))))
    decide (inl a) (inl b) (inr n) = inr (λ h. n (h (m.k g) (inr (inr refl))))
