-- The surface of the initial simplex.
use Rattle.qh_model.proofs.Common.{Surface, rise, Weighted, above, HasDistinctFacets, IsInner, IsSound, IsStrict, perturbed, IsSimplexBoundary, ap, ◌≡◌, ℕ, ◌≤◌}
use Rattle.qh_model.proofs.Common.{arith, sym, ◌∙◌, subst, ⊎_elim, ints, ℤ, pos, ◌+ℤ◌, ◌*ℤ◌, ◌<ℤ◌}
use Rattle.qh_model.proofs.{algebra.Order.mul-pos_neg, algebra.Signs.less_differ, surfaces.PerturbedInwards.above-perturbed_all, surfaces.PerturbedInwards.cube}
use Rattle.qh_model.proofs.surfaces.Facets.{rise_own}

module _ (m : Surface) (home : ℕ → Weighted) (r : IsSimplexBoundary m home) where
  -- the surface is strict without perturbation
  strict_home : IsStrict m home
  strict_home f g i j l c n =
      ⊎_elim (λ k. absurd (n k)) (λ e. subst (λ t. rise m home f (home t) <ℤ pos 0) (sym e) (r.below f i)) (r.covers f g i j l c)

  -- the facets differ
  distinct_home : HasDistinctFacets m
  distinct_home f g i j within = ⊎_elim (λ k. absurd (less_differ _ _ (r.below g j) (rise_own m home g (r.missing g) (within (r.missing g) k))))
      (λ e. r.once f g i j (sym e)) (r.known f g i j)

-- the surface is strict with shares of 0
strict_perturbed : (m : Surface) (home : ℕ → Weighted) (o : Weighted) → IsStrict m home → (n : ℕ) → 1 ≤ n → IsStrict m (perturbed home o (λ l. 0) n)
strict_perturbed m home o st n b f g i j l c nc =
    subst (λ v. v <ℤ pos 0) (sym value) (mul-pos_neg (pos n *ℤ pos n *ℤ pos n) _ (cube 0 n b) (mul-pos_neg (pos n) _ (omega (arith, ints)) (st f g i j l c nc)))
  where
    no_tilt : (n v a b c d : ℤ) → n *ℤ n *ℤ n *ℤ (n *ℤ v +ℤ (pos 0 *ℤ a +ℤ pos 0 *ℤ b +ℤ pos 0 *ℤ c +ℤ pos 0 *ℤ d)) ≡ n *ℤ n *ℤ n *ℤ (n *ℤ v)
    no_tilt n v a b c d =
        let plain : n *ℤ v +ℤ (pos 0 *ℤ a +ℤ pos 0 *ℤ b +ℤ pos 0 *ℤ c +ℤ pos 0 *ℤ d) ≡ n *ℤ v = omega (arith, ints) in
        ap (λ t. n *ℤ n *ℤ n *ℤ t) plain

    value : rise m (perturbed home o (λ l. 0) n) f (perturbed home o (λ l. 0) n l) ≡ pos n *ℤ pos n *ℤ pos n *ℤ (pos n *ℤ rise m home f (home l))
    value =
        let p = home (m.i f) in let q = home (m.j f) in let r = home (m.k f) in let y = home l in
        above-perturbed_all o p q r y (pos n) (pos 0) (pos 0) (pos 0) (pos 0)
        ∙ no_tilt (pos n) (above p q r y) (above o q r y) (above p o r y) (above p q o y) (above p q r o)

-- THEOREM: the surface of the initial simplex is sound
pub simplex_boundary_sound : (m : Surface) (home : ℕ → Weighted) (o : Weighted) → IsInner m home o → IsSimplexBoundary m home → IsSound m home o
simplex_boundary_sound m home o i r = record {
  inner = i;
  distinct = distinct_home m home r;
  lifted = record { h = λ l. 0; from = 1; strict = strict_perturbed m home o (strict_home m home r) };
}
