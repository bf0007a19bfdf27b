-- The plane of a facet of the cone, compared with those of the two facets at its edge of the horizon.
use Rattle.qh_model.proofs.Common.{HasTwin, In, IsCorner, IsInner, IsStrict, IsWhole, Side, Surface, Weighted, above, arith, by_lt_z, end, far, inl, inr, ints}
use Rattle.qh_model.proofs.Common.{pos, rest, rise, rules, subst, sym, ℕ, ℤ, ⊎_elim, ◌*ℤ◌, ◌-ℤ◌, ◌<ℤ◌, ◌∙◌, ◌≡◌, ◌≢◌, ◌≤ℤ◌, ◌⊎◌}
use Rattle.qh_model.proofs.algebra.Order.{mul-neg_pos, mul-nonneg, mul-nonneg_nonpos, mul-nonpos, mul-nonpos_nonneg, mul-pos, mul-pos_neg, negative_le}
use Rattle.qh_model.proofs.{algebra.Order.positive_le, algebra.Signs.not_less, surfaces.CramersRule.line_product}
use Rattle.qh_model.proofs.surfaces.Facets.{bends, corner_cases, corner_rest, corner_test, far_apart, far_below, far_blind, far_rise, far_seen, side_below}
use Rattle.qh_model.proofs.surfaces.Facets.{side_blind, side_rise, side_seen, weak}
use Rattle.qh_model.specs.contract.Surface.{start}

-- ---- signs, for two planes through one line, and a third through it and p
-- a ≤ 0 with a positive product
other_neg : (a b : ℤ) → a ≤ℤ pos 0 → pos 0 <ℤ (a *ℤ b) → b <ℤ pos 0
other_neg a b h k = by_lt_z b (pos 0) (λ q. q) (λ q. absurd (not_less (pos 0) (a *ℤ b) k (mul-nonpos_nonneg a b h q)))

-- the same with a negative product
other_pos : (a b : ℤ) → a ≤ℤ pos 0 → (a *ℤ b) <ℤ pos 0 → pos 0 <ℤ b
other_pos a b h k = by_lt_z (pos 0) b (λ q. q) (λ q. absurd (not_less (a *ℤ b) (pos 0) k (mul-nonpos a b h q)))

-- a factor of a positive product, by the other
first_neg : (a b : ℤ) → b <ℤ pos 0 → pos 0 <ℤ (a *ℤ b) → a <ℤ pos 0
first_neg a b h k = by_lt_z a (pos 0) (λ q. q) (λ q. absurd (not_less (pos 0) (a *ℤ b) k (mul-nonneg_nonpos a b q (negative_le b h))))

-- the heights of p, y and b above the plane of a, and of p and y above that of b and that of p
module _ (ap bp ab ay by py : ℤ) (product : ap *ℤ by -ℤ ay *ℤ bp ≡ ab *ℤ py) where
  -- y is strictly below one of the two, so it is strictly below the third
  below_one_plane : pos 0 <ℤ ap → pos 0 <ℤ bp → ab <ℤ pos 0 → ay ≤ℤ pos 0 → pos 0 ≤ℤ by → (ay <ℤ pos 0) ⊎ (pos 0 <ℤ by) → py <ℤ pos 0
  below_one_plane h k l m n one = other_neg ab py (negative_le ab l) (positive one)
    where
      positive : (ay <ℤ pos 0) ⊎ (pos 0 <ℤ by) → pos 0 <ℤ (ab *ℤ py)
      positive (inl s) =
          let x = mul-nonneg ap by (positive_le ap h) n in let y = mul-neg_pos ay bp s k in omega (arith, ints, product, x, y)
      positive (inr s) =
          let x = mul-pos ap by h s in let y = mul-nonpos_nonneg ay bp m (positive_le bp k) in omega (arith, ints, product, x, y)

  -- y is strictly below both: then the two planes bend strictly
  below_both_planes : pos 0 <ℤ ap → pos 0 ≤ℤ bp → ab ≤ℤ pos 0 → ay <ℤ pos 0 → pos 0 <ℤ by → (ab <ℤ pos 0) × (py <ℤ pos 0)
  below_both_planes h k l m n =
      let x = mul-pos ap by h n in let y = mul-nonpos_nonneg ay bp (negative_le ay m) k in
      let positive : pos 0 <ℤ (ab *ℤ py) = omega (arith, ints, product, x, y) in
      let down = other_neg ab py l positive in (first_neg ab py down positive, down)

  -- y is below or on both
  not_above_planes : pos 0 <ℤ ap → pos 0 ≤ℤ bp → ab <ℤ pos 0 → ay ≤ℤ pos 0 → pos 0 ≤ℤ by → py ≤ℤ pos 0
  not_above_planes = grind arith

  -- y is above both
  above_both_planes : pos 0 <ℤ ap → pos 0 ≤ℤ bp → ab ≤ℤ pos 0 → pos 0 <ℤ ay → by <ℤ pos 0 → pos 0 <ℤ py
  above_both_planes h k l m n =
      let x = mul-pos_neg ap by h n in let y = mul-nonneg ay bp (positive_le ay m) k in
      other_pos ab py l (omega (arith, ints, product, x, y))

-- ---- a facet, its neighbour across a side, and the facet of the cone from p on that side
-- l is a corner of the surface
abbrev pub Old : Surface → ℕ → Type 0
Old m l = (g : ℕ) × In g m.live × IsCorner m g l

module _ (m : Surface) (at : ℕ → Weighted) where
  -- the height of a point above the cone's facet
  abbrev pub apex_rise : ℕ → Side → Weighted → Weighted → ℤ
  apex_rise f s p y = above (at (start m f s)) (at (end m f s)) p y

  module _ (w : IsWhole m) (f : ℕ) (i : In f m.live) (s : Side) (p y : Weighted) where
    -- the three planes go through one line
    products : side_rise m at f s p *ℤ far_rise m at f s y -ℤ side_rise m at f s y *ℤ far_rise m at f s p
        ≡ side_rise m at f s (at (far m f s)) *ℤ apex_rise f s p y
    products = line_product (at (start m f s)) (at (end m f s)) (at (rest m f s)) (at (far m f s)) p y

    -- y is strictly below both: then the side bends, and y is strictly below the cone's facet
    pub apex_inner : pos 0 <ℤ rise m at f p → rise m at (m.over f s) p ≤ℤ pos 0 → rise m at f (at (far m f s)) ≤ℤ pos 0
        → rise m at f y <ℤ pos 0 → rise m at (m.over f s) y <ℤ pos 0
        → (side_rise m at f s (at (far m f s)) <ℤ pos 0) × (apex_rise f s p y <ℤ pos 0)
    apex_inner a b c d e =
        below_both_planes _ _ _ _ _ _ products (side_seen m at f s p a) (far_blind m at w f i s p b)
        (side_blind m at f s (at (far m f s)) c) (side_below m at f s y d) (far_below m at w f i s y e)

    -- neither sees y: then the cone's facet does not see y
    pub apex_blind : pos 0 <ℤ rise m at f p → rise m at (m.over f s) p ≤ℤ pos 0 → side_rise m at f s (at (far m f s)) <ℤ pos 0
        → rise m at f y ≤ℤ pos 0 → rise m at (m.over f s) y ≤ℤ pos 0 → apex_rise f s p y ≤ℤ pos 0
    apex_blind = search (rules, not_above_planes, products, side_seen, far_blind, side_blind)

    -- both see y: then the cone's facet sees y
    pub apex_seen : pos 0 <ℤ rise m at f p → rise m at (m.over f s) p ≤ℤ pos 0 → rise m at f (at (far m f s)) ≤ℤ pos 0
        → pos 0 <ℤ rise m at f y → pos 0 <ℤ rise m at (m.over f s) y → pos 0 <ℤ apex_rise f s p y
    apex_seen = search (rules, above_both_planes, products, side_seen, far_blind, side_blind, far_seen)

module _ (m : Surface) (home : ℕ → Weighted) (o : Weighted) (w : IsWhole m) (q : IsInner m home o) (at : ℕ → Weighted) (st : IsStrict m at)
    (f : ℕ) (i : In f m.live) (s : Side) (l : ℕ) (old : Old m l) (ns : l ≢ start m f s) (ne : l ≢ end m f s) where
  -- a corner of the surface that is not an end of a side is strictly below the facet or its neighbour
  below_one : (side_rise m at f s (at l) <ℤ pos 0) ⊎ (pos 0 <ℤ far_rise m at f s (at l))
  below_one = ⊎_elim (λ k. inr (own (corner_cases m f s l k))) (λ k. inl (side_below m at f s (at l) (st f old.0 i old.1 l old.2 k))) (corner_test m f l)
    where
      t : HasTwin m f s
      t = w f i s

      away : l ≡ rest m f s → ¬ (IsCorner m (m.over f s) l)
      away e k = none (corner_cases m (m.over f s) (m.back f s) l k)
        where
          none : (l ≡ start m (m.over f s) (m.back f s)) ⊎ (l ≡ end m (m.over f s) (m.back f s)) ⊎ (l ≡ far m f s) → ⊥
          none (inl z) = ne (z ∙ t.start_is)
          none (inr (inl z)) = ns (z ∙ t.end_is)
          none (inr (inr z)) = far_apart m home o w q f i s (subst (IsCorner m f) (sym e ∙ z) (corner_rest m f s))

      own : (l ≡ start m f s) ⊎ (l ≡ end m f s) ⊎ (l ≡ rest m f s) → pos 0 <ℤ far_rise m at f s (at l)
      own (inl e) = absurd (ns e)
      own (inr (inl e)) = absurd (ne e)
      own (inr (inr e)) = far_below m at w f i s (at l) (st (m.over f s) old.0 t.live old.1 l old.2 (away e))

  -- so the corner is strictly below the cone's facet, if the facet sees the apex and the neighbour is strictly above it
  pub corner_below_cone : (top : Weighted) → pos 0 <ℤ rise m at f top → rise m at (m.over f s) top <ℤ pos 0 → apex_rise m at f s top (at l) <ℤ pos 0
  corner_below_cone top seen blind =
      below_one_plane _ _ _ _ _ _ (products m at w f i s top (at l)) (side_seen m at f s top seen) (far_below m at w f i s top blind)
      (bends m at home o w q st f i s) (side_blind m at f s (at l) (weak m at st f old.0 i old.1 l old.2))
      (far_blind m at w f i s (at l) (weak m at st (m.over f s) old.0 (w f i s).live old.1 l old.2)) below_one
