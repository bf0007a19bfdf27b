-- A surface whose facets that see an id are replaced by its cone over the horizon.
use Rattle.qh_model.proofs.Common.{In, IsCorner, IsInner, IsSound, IsStrict, IsWhole, Side, Surface, Weighted, ap, arith, end, far, inl, inr, perturbed, pos}
use Rattle.qh_model.proofs.Common.{put, refl, rise, subst, sym, towards, ℕ, ⊎_elim, ◌+◌, ◌<ℤ◌, ◌∙◌, ◌≡◌, ◌≢◌, ◌≤ℤ◌, ◌≤◌, ◌⊎◌}
use Rattle.qh_model.proofs.{algebra.Signs.equal_negative, algebra.Signs.not_less, board.Updates.put_else, board.Updates.put_here, surfaces.ConePlanes.Old}
use Rattle.qh_model.proofs.surfaces.{ConePlanes.apex_inner, ConePlanes.apex_rise, ConePlanes.corner_below_cone, Connected.cert, Facets.corner_end}
use Rattle.qh_model.proofs.surfaces.{Facets.corner_rest, Facets.corner_start, Facets.side_rise, PerturbedInwards.Choice, PerturbedInwards.choose}
use Rattle.qh_model.specs.contract.{SoundSurface.IsStrictWhenPerturbed, Surface.start}

-- a kept facet: p is not above it
pub record KeptOf (m m' : Surface) (home : ℕ → Weighted) (p f' : ℕ) : Type 0 where
  pub live : In f' m.live
  pub blind : rise m home f' (home p) ≤ℤ pos 0
  pub i_is : m'.i f' ≡ m.i f'
  pub j_is : m'.j f' ≡ m.j f'
  pub k_is : m'.k f' ≡ m.k f'

-- a facet of the cone: the side of its base, and its corners
pub record ConeOf (m m' : Surface) (home : ℕ → Weighted) (p : ℕ) (number : ℕ → Side → ℕ) (f' : ℕ) : Type 0 where
  pub f : ℕ
  pub s : Side
  pub live : In f m.live
  pub seen : pos 0 <ℤ rise m home f (home p)
  pub blind : rise m home (m.over f s) (home p) ≤ℤ pos 0
  pub number_is : f' ≡ number f s
  pub i_is : m'.i f' ≡ start m f s
  pub j_is : m'.j f' ≡ end m f s
  pub k_is : m'.k f' ≡ p

-- each live facet is a kept one, or the facet of the cone on one side of the horizon
pub record Replaced (m m' : Surface) (home : ℕ → Weighted) (p : ℕ) : Type 0 where
  pub number : ℕ → Side → ℕ
  pub f0 : ℕ
  pub live : In f0 m.live
  pub seen : pos 0 <ℤ rise m home f0 (home p)
  pub origin : (f' : ℕ) → In f' m'.live → KeptOf m m' home p f' ⊎ ConeOf m m' home p number f'

module _ {m m' : Surface} {home : ℕ → Weighted} {p f' : ℕ} (k : KeptOf m m' home p f') where
  -- a kept facet's corners are the same
  pub kept_corner : (l : ℕ) → IsCorner m f' l → IsCorner m' f' l
  kept_corner = grind arith

  -- the converse
  pub corner_kept : (l : ℕ) → IsCorner m' f' l → IsCorner m f' l
  corner_kept = grind arith

  -- a kept facet sees the same points as before
  pub kept_rise : (at : ℕ → Weighted) (y : Weighted) → rise m at f' y ≡ rise m' at f' y
  kept_rise at y = rw (k.i_is, k.j_is, k.k_is) refl

-- the height of a point above the cone's facet
pub cone_rise : {m m' : Surface} {home : ℕ → Weighted} {p : ℕ} {number : ℕ → Side → ℕ} {f' : ℕ} (n : ConeOf m m' home p number f')
    (at : ℕ → Weighted) (y : Weighted) → apex_rise m at n.f n.s (at p) y ≡ rise m' at f' y
cone_rise n at y = rw (n.i_is, n.j_is, n.k_is) refl

-- a corner of the new surface is an old corner or the point
pub old_or_apex : {m m' : Surface} {home : ℕ → Weighted} {p : ℕ} (r : Replaced m m' home p)
    (f' l : ℕ) → In f' m'.live → IsCorner m' f' l → Old m l ⊎ (l ≡ p)
old_or_apex = grind (arith, corner_kept, corner_start, corner_end)

-- ---- the shares
-- the shares, including that of the new corner
pub with_share : (h : ℕ → ℕ) (p k : ℕ) → ℕ → ℕ
with_share h p k = put h p k

-- the new corner's share
share_p : (h : ℕ → ℕ) (p k : ℕ) → with_share h p k p ≡ k
unfolding with_share
share_p h p k = put_here h p k

-- the other shares do not change
share_other : (h : ℕ → ℕ) (p k l : ℕ) → l ≢ p → with_share h p k l ≡ h l
unfolding with_share
share_other h p k = put_else h p k

-- ---- the invariant
module _ {m m' : Surface} {home : ℕ → Weighted} {o : Weighted} {p : ℕ} (w : IsWhole m) (q : IsSound m home o)
    (r : Replaced m m' home p) where
  -- the point is no corner of the old surface
  pub p_fresh : ¬ (Old m p)
  p_fresh (g, i, c) = not_less (pos 0) (rise m home r.f0 (home p)) r.seen (cert m home o q.lifted r.f0 g r.live i p c)

  -- the horizon bends, and o is strictly below the cone
  pub cone_inside : {f' : ℕ} (n : ConeOf m m' home p r.number f')
      → (side_rise m home n.f n.s (home (far m n.f n.s)) <ℤ pos 0) × (apex_rise m home n.f n.s (home p) o <ℤ pos 0)
  cone_inside n =
      let t = w n.f n.live n.s in
      apex_inner m home w n.f n.live n.s (home p) o n.seen n.blind
      (cert m home o q.lifted n.f (m.over n.f n.s) n.live t.live (far m n.f n.s) (corner_rest m (m.over n.f n.s) (m.back n.f n.s)))
      (q.inner n.f n.live) (q.inner (m.over n.f n.s) t.live)

  -- the inner point stays strictly below
  pub inner_kept : IsInner m' home o
  inner_kept f' i =
      ⊎_elim (λ k. equal_negative _ _ (kept_rise k home o) (q.inner f' k.live)) (λ n. equal_negative _ _ (cone_rise n home o) (cone_inside n).1) (r.origin f' i)

  -- the surface is strict again, with p perturbed inwards far more than the others
  pub lifted_kept : IsStrictWhenPerturbed m' home o
  lifted_kept = record { h = h; from = t.from + ch.from; strict = λ n b. strict n (omega (arith, b)) (omega (arith, b)) }
    where
      t : IsStrictWhenPerturbed m home o
      t = q.lifted

      ch : Choice m home o t.h (home p)
      ch = choose m home o q.inner t.h (home p)

      h : ℕ → ℕ
      h = with_share t.h p ch.k

      at_p : (n : ℕ) → perturbed home o h n p ≡ towards o (pos n) (home p) (pos ch.k)
      at_p n = ap (λ v. towards o (pos n) (home p) (pos v)) (share_p t.h p ch.k)

      at_old : (n l : ℕ) → Old m l → perturbed home o h n l ≡ perturbed home o t.h n l
      at_old n l k = ap (λ v. towards o (pos n) (home l) (pos v)) (share_other t.h p ch.k l (λ e. p_fresh (subst (Old m) e k)))

      kept_as : (n f' : ℕ) → KeptOf m m' home p f' → (y : Weighted) → rise m (perturbed home o t.h n) f' y ≡ rise m' (perturbed home o h n) f' y
      kept_as n f k y =
          let same : (l : ℕ) → IsCorner m f l → perturbed home o t.h n l ≡ perturbed home o h n l = λ l c. sym (at_old n l (f, k.live, c)) in
          rw (same (m.i f) (inl refl), same (m.j f) (inr (inl refl)), same (m.k f) (inr (inr refl))) (kept_rise k (perturbed home o h n) y)

      strict : (n : ℕ) → t.from ≤ n → ch.from ≤ n → IsStrict m' (perturbed home o h n)
      strict n b1 b2 f' g' i j l c nc = below (r.origin f' i) (old_or_apex r g' l j c)
        where
          at : ℕ → Weighted
          at = perturbed home o t.h n

          at' : ℕ → Weighted
          at' = perturbed home o h n

          top : Weighted
          top = towards o (pos n) (home p) (pos ch.k)

          cone_old : ConeOf m m' home p r.number f' → Old m l → rise m' at' f' (at' l) <ℤ pos 0
          cone_old a old = equal_negative _ _ path low
            where
              low : apex_rise m at a.f a.s top (at l) <ℤ pos 0
              low =
                  corner_below_cone m home o w q.inner at (t.strict n b1) a.f a.live a.s l old
                  (λ x. nc (inl (x ∙ sym a.i_is))) (λ x. nc (inr (inl (x ∙ sym a.j_is))))
                  top (ch.up n b2 a.f a.live a.seen) (ch.down n b2 (m.over a.f a.s) (w a.f a.live a.s).live a.blind)

              path : apex_rise m at a.f a.s top (at l) ≡ rise m' at' f' (at' l)
              path =
                  let same : (l : ℕ) → Old m l → at l ≡ at' l = λ l c. sym (at_old n l c) in
                  rw (
                    same (start m a.f a.s) (a.f, a.live, corner_start m a.f a.s),
                    same (end m a.f a.s)
                        (a.f, a.live, corner_end m a.f a.s),
                    sym (at_p n),
                    same l old,
                  )
                  (cone_rise a at' (at' l))

          below : KeptOf m m' home p f' ⊎ ConeOf m m' home p r.number f' → Old m l ⊎ (l ≡ p) → rise m' at' f' (at' l) <ℤ pos 0
          below (inl k) (inl old) =
              subst (λ y. rise m' at' f' y <ℤ pos 0) (sym (at_old n l old))
              (equal_negative _ _ (kept_as n f' k (at l)) (t.strict n b1 f' old.0 k.live old.1 l old.2 (λ x. nc (kept_corner k l x))))
          below (inl k) (inr e) =
              subst (λ y. rise m' at' f' y <ℤ pos 0) (sym (ap at' e ∙ at_p n)) (equal_negative _ _ (kept_as n f' k top) (ch.down n b2 f' k.live k.blind))
          below (inr a) (inl old) = cone_old a old
          below (inr a) (inr e) = absurd (nc (inr (inr (e ∙ sym a.k_is))))
