-- The live facets in one plane are those that see a point slightly beyond one of them, so they are connected.
use Rattle.qh_model.proofs.Common.{Bool, In, IsCorner, IsFinished, IsLevelFacet, IsLevelWith, List, Sees, Surface, Vector, Weighted, [], above, ap, arith}
use Rattle.qh_model.proofs.Common.{by_lt_z, inl, inr, ints, middle_at, neg_ℤ, pos, refl, rise, sym, towards, true, weighted_at, ℕ, ℤ, ◌*ℤ◌, ◌+ℤ◌, ◌<ℤ◌, ◌∙◌}
use Rattle.qh_model.proofs.{Common.◌∷◌, Common.◌≡◌, Common.◌≤ℤ◌, algebra.Integers.neg_mul, algebra.Integers.one_mul}
use Rattle.qh_model.proofs.algebra.{Order.le_antisym, Order.product_zero, Ring.ring, Ring.Expr.add, Ring.Expr.mul, Ring.Expr.var, Signs.equal_le}
use Rattle.qh_model.proofs.algebra.VectorIdentities.{vol-first, vol-second, vol-third}
use Rattle.qh_model.proofs.surfaces.Determinants.{aboveE, above_of, put4, quad}
use Rattle.qh_model.proofs.surfaces.Facets.{level_parts, middle, of_corners, sum_blind, sum_level}
use Rattle.qh_model.proofs.surfaces.{Finished.facets_support, Finished.one_plane, Finished.unseen_above, PerturbedInwards.bound, PerturbedInwards.share}
use Rattle.qh_model.proofs.surfaces.{PerturbedInwards.towardsE, SurfaceLaws.rise_is_vol, SurfaceLaws.walk_finds_all}
use Rattle.qh_model.specs.laws.FacetPlanes.{IsPlaneWalk, LevelFacetsSpan, PlaneWalkFindsAll}

-- ---- a point slightly beyond another, as seen from o
-- a point perturbed, as the last argument
pub above-last : (a b c p o : Weighted) (n k : ℤ) → above a b c (towards o n p k) ≡ n *ℤ above a b c p +ℤ k *ℤ above a b c o
unfolding above
above-last a b c p o n k =
    ring (put4 a (put4 b (put4 c (put4 p (put4 o (n ∷ k ∷ [])))))) (aboveE (quad 0) (quad 1) (quad 2) (towardsE (quad 4) (var 20) (quad 3) (var 21)))
    (add (mul (var 20) (above_of 0 1 2 3)) (mul (var 21) (above_of 0 1 2 4))) refl

-- the point
abbrev pub beyond : (o y : Weighted) → ℕ → Weighted
beyond o y k = towards o (pos k) y (neg_ℤ (pos 1))

module _ (a b c o y : Weighted) (k : ℕ) where
  -- the height of the point above a plane
  beyond-is : above a b c (beyond o y k) ≡ pos k *ℤ above a b c y +ℤ neg_ℤ (above a b c o)
  beyond-is =
      above-last a b c y o (pos k) (neg_ℤ (pos 1)) ∙ ap (λ v. pos k *ℤ above a b c y +ℤ v)
      (neg_mul (pos 1) (above a b c o) ∙ ap neg_ℤ (one_mul (above a b c o)))

  -- a plane through y with o strictly below it sees the point
  pub on_sees_beyond : above a b c y ≡ pos 0 → above a b c o <ℤ pos 0 → pos 0 <ℤ above a b c (beyond o y k)
  on_sees_beyond h low = let s = beyond-is in let p = product_zero (pos k) (above a b c y) h in omega (arith, ints, s, p, low)

  -- if a plane that y is not above sees the point, y is on that plane, for k large enough
  pub sees_beyond_on : neg_ℤ (above a b c o) <ℤ pos k → above a b c y ≤ℤ pos 0 → pos 0 <ℤ above a b c (beyond o y k) → above a b c y ≡ pos 0
  sees_beyond_on large h sees =
      by_lt_z (above a b c y) (pos 0) (λ p. absurd (let s = beyond-is in
      omega (arith, ints, share (neg_ℤ (above a b c o)) (above a b c y) k large p, s, sees))) (λ p. le_antisym _ (pos 0) h p)

-- ---- the facets of a plane
-- proof of the law `LevelFacetsSpan`
pub level_facets_span : LevelFacetsSpan
level_facets_span at ids m z f g live live' level =
    let one = one_plane at ids m z (m.i f) (m.j f) (m.k f) (m.i g) (m.j g) (m.k g) (facets_support at ids m z f live)
    (facets_support at ids m z g live') (level (m.i g) (inl refl)) (level (m.j g) (inr (inl refl))) (level (m.k g) (inr (inr refl))) in
    record { along = one.0; same = one.1 }

-- a facet is in its own plane
pub level_itself : (at : ℕ → Vector) (m : Surface) (f : ℕ) → IsLevelFacet at m f f
level_itself = grind (arith, of_corners, vol-first, vol-second, vol-third)

-- a facet in the plane of another facet has that facet in its own plane
pub level_back : (at : ℕ → Vector) (ids : List ℕ) (m : Surface) → IsFinished at ids m → (f g : ℕ) → In f m.live → In g m.live
    → IsLevelFacet at m f g → IsLevelFacet at m g f
level_back at ids m z f g live live' level l c = ((level_facets_span at ids m z f g live live' level).same l).0 (level_itself at m f l c)

-- a facet in the plane of the other facet is in the first plane
pub level_on : (at : ℕ → Vector) (ids : List ℕ) (m : Surface) → IsFinished at ids m → (f g h : ℕ) → In f m.live → In g m.live
    → IsLevelFacet at m f g → IsLevelFacet at m g h → IsLevelFacet at m f h
level_on at ids m z f g h live live' level level' l c = ((level_facets_span at ids m z f g live live' level).same l).1 (level' l c)

-- ---- a point slightly beyond a facet
module _ (at : ℕ → Vector) (ids : List ℕ) (m : Surface) (z : IsFinished at ids m) (f : ℕ) (live : In f m.live) where
  -- the weighted points of the ids
  abbrev home : ℕ → Weighted
  home = weighted_at at

  -- the middle
  abbrev o : Weighted
  o = middle_at at z.s z.t z.u z.v

  -- a bound for the depth of the middle below any facet
  abbrev b : ℕ
  b = (bound (λ g. rise m home g o) m.live).0

  -- the point
  abbrev little_beyond : Weighted
  little_beyond = beyond o (middle m home f) b

  -- a facet that sees it is in the plane
  pub seen_level : (g : ℕ) → In g m.live → Sees m home g little_beyond → IsLevelFacet at m g f
  seen_level g i sees =
      let z = level_parts _ _ _ _ _ _ low.0 low.1 low.2 (equal_le _ _ (sym flat)) in
      of_corners m f (IsLevelWith at m g) (level (m.i f) z.0) (level (m.j f) z.1) (level (m.k f) z.2)
    where
      corner_below : (l : ℕ) → IsCorner m f l → rise m home g (home l) ≤ℤ pos 0
      corner_below l c = unseen_above at ids m z g i l (z.corners f live l c)

      low : (rise m home g (home (m.i f)) ≤ℤ pos 0) × (rise m home g (home (m.j f)) ≤ℤ pos 0) × (rise m home g (home (m.k f)) ≤ℤ pos 0)
      low = (corner_below (m.i f) (inl refl), corner_below (m.j f) (inr (inl refl)), corner_below (m.k f) (inr (inr refl)))

      flat : rise m home g (middle m home f) ≡ pos 0
      flat = sees_beyond_on _ _ _ o (middle m home f) b ((bound (λ g. rise m home g o) m.live).1 g i).1 (sum_blind _ _ _ _ _ _ low.0 low.1 low.2) sees

      level : (l : ℕ) → rise m home g (home l) ≡ pos 0 → IsLevelWith at m g l
      level l e = sym (rise_is_vol (at (m.i g)) (at (m.j g)) (at (m.k g)) (at l)) ∙ e

  -- a facet in the plane sees the point
  pub level_sees : (g : ℕ) → In g m.live → IsLevelFacet at m g f → Sees m home g little_beyond
  level_sees g i level =
      on_sees_beyond _ _ _ o (middle m home f) b
      (sum_level _ _ _ _ _ _ (zero (m.i f) (inl refl)) (zero (m.j f) (inr (inl refl))) (zero (m.k f) (inr (inr refl)))) (z.sound.inner g i)
    where
      zero : (l : ℕ) → IsCorner m f l → rise m home g (home l) ≡ pos 0
      zero l c = rise_is_vol (at (m.i g)) (at (m.j g)) (at (m.k g)) (at l) ∙ level l c

  -- a walk in the plane is a walk over the facets that the point sees
  pub found : (c : ℕ → Bool) → IsPlaneWalk at m f c → (g : ℕ) → In g m.live → IsLevelFacet at m f g → c g ≡ true
  found c w g i level =
      walk_finds_all m home o z.whole z.sound little_beyond c (record {
        f0 = f;
        live = live;
        seen = level_sees f live (level_itself at m f);
        has = w.has;
        grows = λ h j s e sees. let over = (z.whole h j s).live in
            w.grows h j s e (level_back at ids m z (m.over h s) f over live (seen_level (m.over h s) over sees));
      }) g i (level_sees g i (level_back at ids m z f g live i level))

-- proof of the law `PlaneWalkFindsAll`
pub plane_walk_finds_all : PlaneWalkFindsAll
plane_walk_finds_all = found
