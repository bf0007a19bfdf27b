-- The surface of a simplex.
use Rattle.qh_model.proofs.Common.{one_of, IsInner, Surface, IsWhole, IsCorner, rise, Weighted, above, middle_of}
use Rattle.qh_model.proofs.Common.{weighted_dot, plane_of, In, IsSimplexBoundary, simplex_surface, ◌∙◌, ◌≡◌, ℕ, refl, sym, subst, arith, ap, [], ◌∷◌, ◌⊎◌, inl}
use Rattle.qh_model.proofs.Common.{inr, ⊎_elim, ints, by_lt_z, ℤ, pos, ◌+ℤ◌, ◌<ℤ◌, ◌≤ℤ◌}
use Rattle.qh_model.specs.{laws.SurfaceLaws.SimplexIsSound, laws.SurfaceLaws.MiddleIsBelow}
use Rattle.qh_model.proofs.{algebra.Order.cancel-zero_neg, algebra.Order.product_zero, algebra.Ring.ring, surfaces.Facets.rise_own, surfaces.Facets.plane-is}
use Rattle.qh_model.proofs.{algebra.Signs.less_differ, surfaces.CramersRule.cramer_level, surfaces.SimplexBoundary.simplex_boundary_sound}
use Rattle.qh_model.proofs.surfaces.Determinants.{above_of, put4, above-together, above-first, above-second, above-third, above-turn_last}

-- a fact about 0, 1, 2 and 3 holds for each number below 4
pub four : (P : ℕ → Type 0) → P 0 → P 1 → P 2 → P 3 → (f : ℕ) → In f (0 ∷ 1 ∷ 2 ∷ 3 ∷ []) → P f
four = grind arith

-- ---- orders
-- the facets' orders are even permutations; `above-turn_last` says it for a c d b and a d b c
order_adb : (a b c d : Weighted) → above a d b c ≡ above a b c d
unfolding above
order_adb a b c d = ring (put4 a (put4 b (put4 c (put4 d [])))) (above_of 0 3 1 2) (above_of 0 1 2 3) refl

-- the same for b d c a
order_bdc : (a b c d : Weighted) → above b d c a ≡ above a b c d
unfolding above
order_bdc a b c d = ring (put4 a (put4 b (put4 c (put4 d [])))) (above_of 1 3 2 0) (above_of 0 1 2 3) refl

-- ---- the four facets
module _ (a b c d : ℕ) where
  -- the surface
  abbrev S : Surface
  S = simplex_surface a b c d

  -- all sides have twins
  whole : IsWhole S
  whole = grind arith

  -- the id that a facet lacks
  abbrev missing : ℕ → ℕ
  missing = one_of d c b a

  -- the number is one of the four ids
  abbrev Ids : ℕ → Type 0
  Ids l = (l ≡ a) ⊎ (l ≡ b) ⊎ (l ≡ c) ⊎ (l ≡ d)

  -- each corner is one of the four
  ids : (f : ℕ) → In f S.live → (l : ℕ) → IsCorner S f l → Ids l
  ids = grind arith

  -- each id is a corner of a facet or the id that it lacks
  place : (f : ℕ) → In f S.live → (l : ℕ) → Ids l → IsCorner S f l ⊎ (l ≡ missing f)
  place = grind arith

  -- a facet has the id that another facet lacks
  abbrev HasOther : ℕ → ℕ → Type 0
  HasOther f g = (f ≡ g) ⊎ IsCorner S f (missing g)

  -- the same for all facets
  other : (f : ℕ) → In f S.live → (g : ℕ) → In g S.live → HasOther f g
  other = grind arith

module _ (home : ℕ → Weighted) (a b c d : ℕ) (h : above (home a) (home b) (home c) (home d) <ℤ pos 0) where
  -- the middle is strictly below each facet
  inside : IsInner (simplex_surface a b c d) home (middle_of (home a) (home b) (home c) (home d))
  inside = grind (arith, four, above-together, above-first, above-second, above-third, order_adb, above-turn_last, order_bdc)

  -- the four facets are the boundary of a simplex
  boundary : IsSimplexBoundary (simplex_surface a b c d) home
  boundary = record {
    missing = missing a b c d;
    covers = λ f g i j l k. place a b c d f i l (ids a b c d g j l k);
    known = λ f g i j. ⊎_elim (λ e. inr (ap (missing a b c d) (sym e))) (λ k. inl k) (other a b c d f i g j);
    below = below;
    once = λ f g i j e. one f g i e (other a b c d f i g j);
  }
    where
      below : (f : ℕ) → In f (S a b c d).live → rise (S a b c d) home f (home (missing a b c d f)) <ℤ pos 0
      below =
          let A = home a in let B = home b in let C = home c in let D = home d in
          four (λ f. rise (S a b c d) home f (home (missing a b c d f)) <ℤ pos 0) h (subst (λ v. v <ℤ pos 0) (sym (order_adb A B C D)) h)
          (subst (λ v. v <ℤ pos 0) (sym (above-turn_last A B C D)) h) (subst (λ v. v <ℤ pos 0) (sym (order_bdc A B C D)) h)

      one : (f g : ℕ) → In f (S a b c d).live → missing a b c d f ≡ missing a b c d g → HasOther a b c d f g → f ≡ g
      one f g i e (inl q) = q
      one f g i e (inr k) =
          absurd (less_differ _ _ (below f i) (ap (λ t. rise (S a b c d) home f (home t)) e ∙ rise_own (S a b c d) home f (missing a b c d g) k))

-- proof of the law `SimplexIsSound`
pub simplex_sound : SimplexIsSound
simplex_sound home a b c d h = (
  whole a b c d,
  simplex_boundary_sound (S a b c d) home (middle_of (home a) (home b) (home c) (home d)) (inside home a b c d h)
      (boundary home a b c d h),
)

-- proof of the law `MiddleIsBelow`
pub middle_is_below : MiddleIsBelow
middle_is_below a b c s t u v p h hs ht hu hv off =
    by_lt_z (above a b c (middle_of s t u v)) (pos 0) (λ q. q) (λ q. absurd (off (level (zeros _ _ _ _ _ (above-together a b c s t u v) q hs ht hu hv))))
  where
    zeros : (x a b c d : ℤ) → x ≡ a +ℤ b +ℤ c +ℤ d → pos 0 ≤ℤ x → a ≤ℤ pos 0 → b ≤ℤ pos 0 → c ≤ℤ pos 0 → d ≤ℤ pos 0
        → (a ≡ pos 0) × (b ≡ pos 0) × (c ≡ pos 0) × (d ≡ pos 0)
    zeros x a b c d e h ha hb hc hd = (omega (arith, ints), omega (arith, ints), omega (arith, ints), omega (arith, ints))

    n : Weighted
    n = plane_of a b c

    on : (y : Weighted) → above a b c y ≡ pos 0 → weighted_dot n y ≡ pos 0
    on y e = plane-is a b c y ∙ e

    level : (above a b c s ≡ pos 0) × (above a b c t ≡ pos 0) × (above a b c u ≡ pos 0) × (above a b c v ≡ pos 0) → above a b c p ≡ pos 0
    level z =
        sym (plane-is a b c p) ∙ cancel-zero_neg (above s t u v) (weighted_dot n p) h
        (cramer_level n s t u v p (on s z.0) (on t z.1) (on u z.2) ∙ product_zero (above s t u p) _ (on v z.3))

-- the middle of the same points in another order is the same
pub middle-turned : (a b c d : Weighted) → middle_of a c b d ≡ middle_of a b c d
middle-turned a b c d = λ i. record { w = swap a.w b.w c.w d.w i; x = swap a.x b.x c.x d.x i; y = swap a.y b.y c.y d.y i; z = swap a.z b.z c.z d.z i }
  where
    swap : (p q r s : ℤ) → p +ℤ r +ℤ q +ℤ s ≡ p +ℤ q +ℤ r +ℤ s
    swap p q r s = omega (arith, ints)
