-- A point between a facet and an inner place is above no facet, and a point above no facet is a convex combination.
use Rattle.qh_model.proofs.Common.{◌≡◌, ℕ, arith, refl, sym, ◌∙◌, inl, inr, ⊎_elim, ints, ℤ, pos, ◌+ℤ◌, ◌≤ℤ◌, ◌<ℤ◌, weighted_at, middle_at, end, IsCorner, rise}
use Rattle.qh_model.proofs.Common.{first, second, third, Weighted, weighted, weighted_dot, plane_of, above, In, Members}
use Rattle.qh_model.specs.contract.Surface.{start}
use Rattle.qh_model.proofs.{algebra.Order.mul-neg_pos, algebra.Order.mul-nonpos, algebra.Order.negative_le, surfaces.Simplex.middle_is_below}
use Rattle.qh_model.proofs.algebra.Signs.{at_most_zero, less_differ, equal_nonpos, equal_negative, equal_positive}
use Rattle.qh_model.proofs.{extremes.ExtremeIds.listed_itself, extremes.ExtremeIds.alternative_in, extremes.Faces.face_combination, surfaces.CramersRule.cramer}
use Rattle.qh_model.proofs.surfaces.{Determinants.above-together, Determinants.above-turn, Facets.plane-is, SurfaceLaws.rise_is_vol}
use Rattle.qh_model.proofs.surfaces.Finished.{none_beyond, unseen_above}
use Rattle.qh_laws.specs.contract.Seam.{height_over}
use Rattle.qh_laws.specs.laws.PointLaws.{LevelIsInPolygon, WithinIsBelow, BetweenIsBelow, MiddleIsInner, BetweenFourIsBelow, BelowIsCombination}
use Rattle.qh_laws.proofs.Heights.{rise_is_height, blind_rise, seen_rise}

-- proof of the law `WithinIsBelow`
pub within_is_below : WithinIsBelow
within_is_below at ids m z o unseen f live p w g i = at_most_zero _ outside
  where
    home : ℕ → Weighted
    home = weighted_at at

    plane : Weighted
    plane = plane_of (home (m.i g)) (home (m.j g)) (home (m.k g))

    value : (q : Weighted) → weighted_dot plane q ≡ rise m home g q
    value q = plane-is (home (m.i g)) (home (m.j g)) (home (m.k g)) q

    corner : (l : ℕ) → IsCorner m f l → weighted_dot plane (home l) ≤ℤ pos 0
    corner l c = equal_nonpos _ _ (sym (value (home l))) (unseen_above at ids m z g i l (z.corners f live l c))

    -- Cramer's rule at a point beyond the plane has no term above 0 on its left, and none below 0 on its right
    outside : pos 0 <ℤ height_over at m g p → ⊥
    outside up =
        let a = home (m.i f) in let b = home (m.j f) in let c = home (m.k f) in let x = weighted p in let sum = cramer plane a b c o x in
        let low = mul-neg_pos (above a b c o) _ w.inner (equal_positive _ _ (sym (value x)) (seen_rise at m g p up)) in
        let by_a = mul-nonpos (above x b c o) _ (equal_nonpos _ _ (sym (above-turn x b c o)) (w.sides second)) (corner (m.i f) (inl refl)) in
        let by_b = mul-nonpos (above a x c o) _ (equal_nonpos _ _ (sym (above-turn a x c o ∙ above-turn x c a o)) (w.sides third))
        (corner (m.j f) (inr (inl refl))) in
        let by_c = mul-nonpos (above a b x o) _ (w.sides first) (corner (m.k f) (inr (inr refl))) in
        let by_o = mul-nonpos (above a b c x) _ (blind_rise at m f p w.below) (equal_nonpos _ _ (sym (value o)) (unseen g i)) in
        omega (arith, ints, sum, low, by_a, by_b, by_c, by_o)

-- proof of the law `BetweenIsBelow`
pub between_is_below : BetweenIsBelow
between_is_below at ids m z c h f live p b =
    within_is_below at ids m z (weighted (at c)) (λ g i. unseen_above at ids m z g i c h) f live p (record {
      inner = equal_negative _ _ (sym (rise_is_height at m f (at c))) b.inner;
      below = b.below;
      sides = λ s. equal_nonpos _ _ (sym (rise_is_vol (at (start m f s)) (at (end m f s)) p (at c))) (b.sides s);
    })

-- proof of the law `MiddleIsInner`
pub middle_is_inner : MiddleIsInner
middle_is_inner at ids m z s t u v hs ht hu hv h f i =
    middle_is_below (home (m.i f)) (home (m.j f)) (home (m.k f)) (home s) (home t) (home u) (home v) (middle_at at z.s z.t z.u z.v)
    (equal_negative _ _ (sym (rise_is_vol (at s) (at t) (at u) (at v))) h) (unseen_above at ids m z f i s hs) (unseen_above at ids m z f i t ht)
    (unseen_above at ids m z f i u hu) (unseen_above at ids m z f i v hv) (λ e. less_differ _ (pos 0) (z.sound.inner f i) e)
  where
    home : ℕ → Weighted
    home = weighted_at at

-- proof of the law `BetweenFourIsBelow`
pub between_four_is_below : BetweenFourIsBelow
between_four_is_below at ids m z s t u v hs ht hu hv h f live p b =
    within_is_below at ids m z (middle_at at s t u v) (λ g i. negative_le _ (inner g i)) f live p (record {
      inner = inner f live;
      below = b.below;
      sides = λ e. let a = at (start m f e) in let c = at (end m f e) in equal_nonpos _ _
          (sym (above-together _ _ _ (weighted (at s)) (weighted (at t)) (weighted (at u)) (weighted (at v))
          ∙ sums (rise_is_vol a c p (at s)) (rise_is_vol a c p (at t)) (rise_is_vol a c p (at u)) (rise_is_vol a c p (at v)))) (b.sides e);
    })
  where
    inner : (g : ℕ) → In g m.live → rise m (weighted_at at) g (middle_at at s t u v) <ℤ pos 0
    inner = middle_is_inner at ids m z s t u v hs ht hu hv h

    sums : {x y z w x' y' z' w' : ℤ} → x ≡ x' → y ≡ y' → z ≡ z' → w ≡ w' → x +ℤ y +ℤ z +ℤ w ≡ x' +ℤ y' +ℤ z' +ℤ w'
    sums d e f g = cc (d, e, f, g)

-- proof of the law `BelowIsCombination`
pub below_is_combination : BelowIsCombination
below_is_combination at ids m z p below =
    ⊎_elim (λ c. c) (λ s. absurd (none_beyond at ids m z s.w p below s.past)) (alternative_in at (Members ids) ids (listed_itself ids) p)

-- proof of the law `LevelIsInPolygon`
pub level_is_in_polygon : LevelIsInPolygon
level_is_in_polygon at ids m z f i p below on =
    face_combination at (Members ids) ids (listed_itself ids) (m.i f) (m.j f) (m.k f) (z.unseen f i) p on (below_is_combination at ids m z p below)
