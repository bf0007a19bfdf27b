-- A point in the plane of a facet that is above no facet beside that plane is above no facet at all.
use Rattle.qh_laws.proofs.Decisions.{flag, flag-holds, flag-true}
use Rattle.qh_laws.proofs.Heights.{blind_rise, level_or_not, rise_is_height, seen_rise}
use Rattle.qh_laws.specs.{contract.Seam.IsBelowAll, contract.Seam.IsRing, contract.Seam.height_over, laws.PointLaws.IsBeside, laws.PointLaws.SidesHideRest}
use Rattle.qh_model.proofs.Common.{Bool, In, IsCorner, IsFinished, IsLevelFacet, List, Sees, Side, Surface, Vector, Weighted, above, and_parts, ap, arith}
use Rattle.qh_model.proofs.Common.{false, inl, inr, ints, middle_at, neg_ℤ, pos, refl, rise, suc, sym, towards, true, weighted, weighted_at, ℕ, ℤ, ⊎_elim, ◌&&◌}
use Rattle.qh_model.proofs.Common.{◌*ℤ◌, ◌+ℤ◌, ◌<ℤ◌, ◌∙◌, ◌≡◌, ◌≤ℤ◌}
use Rattle.qh_model.proofs.algebra.{Integers.one_mul, Order.mul-nonneg, Order.mul-nonneg_nonpos, Order.positive_le, Order.product_zero, Signs.at_most_zero}
use Rattle.qh_model.proofs.{algebra.Signs.equal_positive, algebra.Signs.less_differ, extremes.Directions.same_plane}
use Rattle.qh_model.proofs.surfaces.FacetPlanes.{above-last, beyond, level_back, level_facets_span, level_itself, on_sees_beyond, plane_walk_finds_all}
use Rattle.qh_model.proofs.surfaces.{FacetPlanes.seen_level, FacetPlanes.sees_beyond_on, Facets.middle, Facets.sum_blind, Facets.sum_level}
use Rattle.qh_model.proofs.surfaces.{Finished.unseen_above, PerturbedInwards.bound, PerturbedInwards.scale, SurfaceLaws.walk_finds_all}
use Rattle.qh_model.specs.laws.FacetPlanes.{IsPlaneWalk}

-- a plane that is not above y, and is strictly above o, sees a point beyond y
past_sees_beyond : (a b c o y : Weighted) (k : ℕ) → pos 0 ≤ℤ above a b c y → above a b c o <ℤ pos 0 → pos 0 <ℤ above a b c (beyond o y k)
past_sees_beyond a b c o y k past low =
    let sum = above-last a b c y o (pos k) (neg_ℤ (pos 1)) in
    let share = mul-nonneg (pos k) (above a b c y) (omega (arith, ints)) past in omega (arith, ints, sum, share, low)

-- ---- a point in the plane of a facet, moved slightly to the facet's middle and then slightly outwards
module _ (at : ℕ → Vector) (ids : List ℕ) (m : Surface) (z : IsFinished at ids m) (f : ℕ) (live : In f m.live) (p : Vector)
    (on : height_over at m f p ≡ pos 0) where
  abbrev home : ℕ → Weighted
  home = weighted_at at

  abbrev o : Weighted
  o = middle_at at z.s z.t z.u z.v

  -- the height of the middle above a facet
  abbrev mid : ℕ → ℤ
  mid g = rise m home g (middle m home f)

  abbrev a : ℕ
  a = (bound mid m.live).0

  abbrev b : ℕ
  b = (bound (λ g. rise m home g o) m.live).0

  -- the point moved slightly inwards
  abbrev y : Weighted
  y = towards (middle m home f) (pos (suc a)) (weighted p) (pos 1)

  -- the point moved outwards
  abbrev x : Weighted
  x = beyond o y b

  y-is : (g : ℕ) → rise m home g y ≡ pos (suc a) *ℤ rise m home g (weighted p) +ℤ mid g
  y-is g =
      above-last (home (m.i g)) (home (m.j g)) (home (m.k g)) (weighted p) (middle m home f) (pos (suc a)) (pos 1)
      ∙ ap (λ v. pos (suc a) *ℤ rise m home g (weighted p) +ℤ v) (one_mul (mid g))

  -- a facet that y is not below sees x
  sees_x : (g : ℕ) → In g m.live → pos 0 ≤ℤ rise m home g y → Sees m home g x
  sees_x g i past = past_sees_beyond (home (m.i g)) (home (m.j g)) (home (m.k g)) o y b past (z.sound.inner g i)

  -- p is in the plane of each facet that is in the plane of f
  pub level_point : (g : ℕ) → In g m.live → IsLevelFacet at m f g → height_over at m g p ≡ pos 0
  level_point g i level =
      (same_plane (at (m.i f)) (at (m.j f)) (at (m.k f)) (at (m.i g)) (at (m.j g)) (at (m.k g)) p
      (level_facets_span at ids m z f g live i level).along (level (m.i g) (inl refl))).0 on

  -- a facet in the plane of f sees x
  level_sees : (g : ℕ) → In g m.live → IsLevelFacet at m f g → Sees m home g x
  level_sees g i level =
      let sum = y-is g in let none = product_zero (pos (suc a)) _ (rise_is_height at m g p ∙ level_point g i level) in
      sees_x g i (omega (arith, ints, sum, none, flat))
    where
      corner : (l : ℕ) → IsCorner m f l → rise m home g (home l) ≡ pos 0
      corner l c = rise_is_height at m g (at l) ∙ level_back at ids m z f g live i level l c

      flat : mid g ≡ pos 0
      flat = sum_level _ _ _ _ _ _ (corner (m.i f) (inl refl)) (corner (m.j f) (inr (inl refl))) (corner (m.k f) (inr (inr refl)))

  -- a facet beside the plane does not see x, if p is not above it
  beside_blind : (g : ℕ) → In g m.live → ¬ (IsLevelFacet at m f g) → height_over at m g p ≤ℤ pos 0 → ¬ (Sees m home g x)
  beside_blind g i other below sees = other (level_back at ids m z g f i live level)
    where
      corner : (l : ℕ) → IsCorner m f l → rise m home g (home l) ≤ℤ pos 0
      corner l c = unseen_above at ids m z g i l (z.corners f live l c)

      mid_low : mid g ≤ℤ pos 0
      mid_low = sum_blind _ _ _ _ _ _ (corner (m.i f) (inl refl)) (corner (m.j f) (inr (inl refl))) (corner (m.k f) (inr (inr refl)))

      share_low : (pos (suc a) *ℤ rise m home g (weighted p)) ≤ℤ pos 0
      share_low = mul-nonneg_nonpos (pos (suc a)) _ (omega (arith, ints)) (blind_rise at m g p below)

      y_level : rise m home g y ≡ pos 0
      y_level =
          sees_beyond_on _ _ _ o y b ((bound (λ g. rise m home g o) m.live).1 g i).1 (let sum = y-is g in omega (arith, ints, sum, mid_low, share_low)) sees

      mid_level : mid g ≡ pos 0
      mid_level = let sum = y-is g in omega (arith, ints, sum, mid_low, share_low, y_level)

      level : IsLevelFacet at m g f
      level = seen_level at ids m z f live g i (on_sees_beyond _ _ _ o (middle m home f) b mid_level (z.sound.inner g i))

  -- a facet that sees p sees x
  above_sees : (g : ℕ) → In g m.live → pos 0 <ℤ height_over at m g p → Sees m home g x
  above_sees g i h =
      sees_x g i (positive_le _ (equal_positive _ _ (sym (y-is g))
      (scale (mid g) _ a (suc a) ((bound mid m.live).1 g i).1 (omega arith) (seen_rise at m g p h))))

  -- a walk over the facets that see x does not leave the plane
  hidden : ((g : ℕ) → IsBeside at m f g → height_over at m g p ≤ℤ pos 0) → IsBelowAll at m p
  hidden sides g i = at_most_zero _ (λ above. less_differ (pos 0) _ above (sym (level_point g i (found above))))
    where
      in_plane : ℕ → Bool
      in_plane h = flag (level_or_not at m f h)

      grows : (h : ℕ) → In h m.live → (s : Side) → in_plane h ≡ true → Sees m home (m.over h s) x → in_plane (m.over h s) ≡ true
      grows h j s e sees = ⊎_elim (λ level. flag-true (level_or_not at m f (m.over h s)) level)
          (λ other. absurd (beside_blind (m.over h s) (z.whole h j s).live other (sides (m.over h s) (beside other)) sees)) (level_or_not at m f (m.over h s))
        where
          beside : ¬ (IsLevelFacet at m f (m.over h s)) → IsBeside at m f (m.over h s)
          beside other = record { h = h; live = j; level = flag-holds (level_or_not at m f h) e; side = s; over_is = refl; other = other }

      found : pos 0 <ℤ height_over at m g p → IsLevelFacet at m f g
      found above = flag-holds (level_or_not at m f g) (walk_finds_all m home o z.whole z.sound x in_plane (record {
        f0 = f;
        live = live;
        seen = level_sees f live (level_itself at m f);
        has = flag-true (level_or_not at m f f) (level_itself at m f);
        grows = grows;
      }) g i (above_sees g i above))

-- proof of the law `SidesHideRest`
pub sides_hide_rest : SidesHideRest
sides_hide_rest = hidden

-- if no facet of the ring lies in the plane of a facet that stays, all facets in that plane stay
pub level_stay : (at : ℕ → Vector) (ids : List ℕ) (m : Surface) → IsFinished at ids m → (f : ℕ) → In f m.live → (stay : ℕ → Bool)
    → stay f ≡ true → ((g : ℕ) → IsRing m stay g → IsLevelFacet at m f g → ⊥)
    → (g : ℕ) → In g m.live → IsLevelFacet at m f g → stay g ≡ true
level_stay at ids m z f live stay stays none g i level = (marked g (plane_walk_finds_all at ids m z f live both walk g i level)).0
  where
    both : ℕ → Bool
    both h = stay h && flag (level_or_not at m f h)

    mark : (h : ℕ) → stay h ≡ true → IsLevelFacet at m f h → both h ≡ true
    mark h s l = rw (s, flag-true (level_or_not at m f h) l) refl

    marked : (h : ℕ) → both h ≡ true → (stay h ≡ true) × IsLevelFacet at m f h
    marked h e =
        let parts = and_parts (stay h) (flag (level_or_not at m f h)) e in (parts.0, flag-holds (level_or_not at m f h) parts.1)

    grows : (h : ℕ) → In h m.live → (s : Side) → both h ≡ true → IsLevelFacet at m f (m.over h s) → both (m.over h s) ≡ true
    grows h j s e over_level = by_mark (stay (m.over h s)) refl
      where
        by_mark : (b : Bool) → stay (m.over h s) ≡ b → both (m.over h s) ≡ true
        by_mark true r = mark (m.over h s) r over_level
        by_mark false r = absurd (none h (record { live = j; stays = (marked h e).0; side = s; gone = r }) (marked h e).1)

    walk : IsPlaneWalk at m f both
    walk = record { has = mark f stays (level_itself at m f); grows = grows }
