-- A finished surface includes every extreme id and every supporting plane.
use Rattle.qh_model.proofs.Common.{◌↔◌, ◌≡◌, ℕ, arith, refl, sym, subst, ◌∙◌, ◌⊎◌, inl, inr, ⊎_elim, List, [], ◌∷◌, ints, by_lt_z, ℤ, pos, ◌≤ℤ◌, ◌<ℤ◌, Triple}
use Rattle.qh_model.proofs.Common.{IsClosedSurface, triples_of, IsSound, weighted_at, middle_at, IsFinished, Surface, IsCorner, rise, IsWhole, Weighted, above}
use Rattle.qh_model.proofs.Common.{Extreme, cross, vol, AreInLine, In, Once, Members, IsSupportingTriple, OnPlane, Vector, dot, AreSupporting, IsAlong}
use Rattle.qh_model.proofs.Common.{IsLiveCorner, CornerInPlane}
use Rattle.qh_model.specs.laws.ClosedFaceLaws.{TriangleOfPlane}
use Rattle.qh_model.specs.laws.CompletenessLaws.{FacetsSupport, ExtremesAreCorners, ExtremesOfPlaneAreCorners, FacetOfPlane, PlanesHaveFacets}
use Rattle.qh_model.proofs.{Decisions.Decided, Decisions.in_or_not, Decisions.less_or_not, Decisions.some_or_none, closed_surfaces.PlaneCorners.corner_in_plane}
use Rattle.qh_model.proofs.{Members.each_more, Members.each_of_three, algebra.VectorIdentities.vol-flip_last, closed_surfaces.Cancellation.none_below}
use Rattle.qh_model.proofs.algebra.{Order.cancel-zero, Order.le_antisym, Order.product_zero, Signs.less_differ, Signs.not_less}
use Rattle.qh_model.proofs.{closed_surfaces.SignedVolume.vol_at, polygons.PlaneTurns.level_volume, surfaces.SurfaceLaws.rise_is_vol}
use Rattle.qh_model.proofs.{closed_surfaces.Supporting.closed_miss_no_plane, closed_surfaces.Supporting.closed_miss_no_extreme, surfaces.Facets.of_corners}
use Rattle.qh_model.proofs.extremes.Directions.{along_back, at_least_along, normal_along, from_plane, vol_along, same_plane, square-positive}
use Rattle.qh_model.proofs.surfaces.Closed.{inner_area, of_facets, sound_is_closed, sound_has_volume, seen_volume}

-- a list without its repetitions
each_once : (xs : List ℕ) → (ys : List ℕ) × Once ys × ((x : ℕ) → In x xs ↔ In x ys)
each_once [] = ([], tt, λ x. (λ i. i, λ i. i))
each_once (x ∷ xs) = let (ys, once, same) = each_once xs in elim (in_or_not x ys) [
  | inl there ↦ (ys, once, λ y. (each_more (λ y. In y ys) x xs there (λ y. (same y).0) y, λ i. inr ((same y).1 i)))
  | inr new ↦ (x ∷ ys, (new, once), λ y. (⊎_elim inl (λ i. inr ((same y).0 i)), ⊎_elim inl (λ i. inr ((same y).1 i))))
]

module _ (at : ℕ → Vector) (ids : List ℕ) (m : Surface) (z : IsFinished at ids m) where
  -- the weighted point of an id
  abbrev P : ℕ → Weighted
  P = weighted_at at

  -- the middle
  abbrev o : Weighted
  o = middle_at at z.s z.t z.u z.v

  -- `vol` in terms of `above`
  is_vol : (i j k l : ℕ) → above (P i) (P j) (P k) (P l) ≡ vol (at i) (at j) (at k) (at l)
  is_vol i j k l = rise_is_vol (at i) (at j) (at k) (at l)

  -- the facts of the record in terms of `above`
  pub unseen_above : (f : ℕ) → In f m.live → (l : ℕ) → Members ids l → rise m P f (P l) ≤ℤ pos 0
  unseen_above f i l h = subst (λ x. x ≤ℤ pos 0) (sym (is_vol (m.i f) (m.j f) (m.k f) l)) (z.unseen f i l h)

  -- ---- facets are supporting triples
  -- the middle is strictly below a facet, so its corners are not in line
  pub facet_area : (f : ℕ) → In f m.live → ¬ (AreInLine (at (m.i f)) (at (m.j f)) (at (m.k f)))
  facet_area f i = inner_area at m z.s z.t z.u z.v f (z.sound.inner f i)

  -- the corners of a facet are members, and no member is above it
  facet_supports : (f : ℕ) → In f m.live → IsSupportingTriple at (Members ids) (m.i f) (m.j f) (m.k f)
  facet_supports = grind (arith, facet_area)

  -- ---- planes that support the set
  -- not all members are in one plane
  not_flat : (i j k : ℕ) → IsSupportingTriple at (Members ids) i j k → ((l : ℕ) → Members ids l → vol (at i) (at j) (at k) (at l) ≡ pos 0) → ⊥
  not_flat i j k t level =
      less_differ _ _ z.volume (cancel-zero _ _ (square-positive (cross (at i) (at j) (at k)) t.area)
      (level_volume (at i) (at j) (at k) (at z.s) (at z.t) (at z.u) (at z.v) (level z.s z.has_s) (level z.t z.has_t) (level z.u z.has_u)
      ∙ product_zero _ _ (level z.v z.has_v)))

  -- ---- the same side outside
  module _ (i j k a b c : ℕ) (t : IsSupportingTriple at (Members ids) i j k) (r : IsSupportingTriple at (Members ids) a b c)
      (e : vol (at i) (at j) (at k) (at a) ≡ pos 0) where
    -- no two planes that support the set are opposite
    not_opposite : IsAlong (cross (at i) (at j) (at k)) (cross (at a) (at c) (at b)) → ⊥
    not_opposite h = not_flat i j k t (λ l hl. let flip = vol-flip_last (at a) (at b) (at c) (at l) in let low = r.supports l hl in
        le_antisym (vol (at i) (at j) (at k) (at l)) (pos 0) (t.supports l hl)
        (at_least_along h.t h.s _ _ h.some_t h.some_s (sym (vol_along (at i) (at j) (at k) (at a) (at c) (at b) (at l) h e))
        (omega (arith, ints, flip, low))))

    -- supporting triples in one plane have the same side outside
    pub one_plane : vol (at i) (at j) (at k) (at b) ≡ pos 0 → vol (at i) (at j) (at k) (at c) ≡ pos 0
        → IsAlong (cross (at i) (at j) (at k)) (cross (at a) (at b) (at c))
        × ((l : ℕ) → (vol (at i) (at j) (at k) (at l) ≡ pos 0) ↔ (vol (at a) (at b) (at c) (at l) ≡ pos 0))
    one_plane f g =
        same_side (normal_along (cross (at i) (at j) (at k)) (at a) (at b) (at c) t.area r.area
        (from_plane (at i) (at j) (at k) (at a) (at b) e ∙ f) (from_plane (at i) (at j) (at k) (at a) (at c) e ∙ g))
      where
        same_side : IsAlong (cross (at i) (at j) (at k)) (cross (at a) (at b) (at c)) ⊎ IsAlong (cross (at i) (at j) (at k)) (cross (at a) (at c) (at b))
            → IsAlong (cross (at i) (at j) (at k)) (cross (at a) (at b) (at c))
            × ((l : ℕ) → (vol (at i) (at j) (at k) (at l) ≡ pos 0) ↔ (vol (at a) (at b) (at c) (at l) ≡ pos 0))
        same_side (inr h) = absurd (not_opposite h)
        same_side (inl h) = (h, λ l. same_plane (at i) (at j) (at k) (at a) (at b) (at c) (at l) h e)

  -- ---- the live facets, each once, as a closed surface
  abbrev once : (ys : List ℕ) × Once ys × ((x : ℕ) → In x m.live ↔ In x ys)
  once = each_once m.live

  abbrev m' : Surface
  m' = record m { live = once.0 }

  whole : IsWhole m'
  whole f i s = let t = z.whole f ((once.2 f).1 i) s in
      record { live = (once.2 (m.over f s)).0 t.live; start_is = t.start_is; end_is = t.end_is; returns = t.returns }

  sound : IsSound m' P o
  sound = record {
    inner = λ f i. z.sound.inner f ((once.2 f).1 i);
    distinct = λ f g i j. z.sound.distinct f g ((once.2 f).1 i) ((once.2 g).1 j);
    lifted = record {
      h = z.sound.lifted.h;
      from = z.sound.lifted.from;
      strict = λ n k f g i j. z.sound.lifted.strict n k f g ((once.2 f).1 i) ((once.2 g).1 j);
    };
  }

  surface : IsClosedSurface at (triples_of m')
  surface = sound_is_closed at m' z.s z.t z.u z.v z.some ((once.2 z.some).0 z.some_live) once.1 whole sound

  -- a fact about the triangles of facets
  of_facet : (Q : Triple → Type 0) → ((f : ℕ) → In f m.live → Q (record { i = m.i f; j = m.j f; k = m.k f })) → (t : Triple) → In t (triples_of m') → Q t
  of_facet Q h = of_facets m' Q once.0 (λ f i. h f ((once.2 f).1 i))

  supporting : AreSupporting at (Members ids) (triples_of m')
  supporting = of_facet (λ t. IsSupportingTriple at (Members ids) t.i t.j t.k) facet_supports

  -- ---- nothing is missed
  module _ (i j k : ℕ) (t : IsSupportingTriple at (Members ids) i j k) where
    -- a triangle that spans the plane
    found : TriangleOfPlane at (triples_of m') i j k
    found = closed_miss_no_plane at ids (triples_of m') surface supporting i j k t

    -- a supporting plane is that of a live facet
    facet_of_plane : FacetOfPlane at m i j k
    facet_of_plane =
        of_facet (λ x. IsAlong (cross (at x.i) (at x.j) (at x.k)) (cross (at i) (at j) (at k)) → vol (at x.i) (at x.j) (at x.k) (at i) ≡ pos 0
        → FacetOfPlane at m i j k) (λ f live h on. record {
          f = f;
          live = live;
          along = along_back _ _ h;
          same = λ l. let s = same_plane (at (m.i f)) (at (m.j f)) (at (m.k f)) (at i) (at j) (at k) (at l) h on in (s.1, s.0);
        }) found.t found.there found.along found.level

  -- an extreme id in the plane of a triangle is a corner of a live facet in that plane
  corner_at : (t : Triple) → In t (triples_of m') → (l : ℕ) → OnPlane at (Extreme at (Members ids)) t.i t.j t.k l → CornerInPlane at m t.i t.j t.k l
  corner_at t r l x = by_height (some_or_none (λ q. height q <ℤ pos 0) (λ q. less_or_not (height q) (pos 0)) ids)
    where
      height : ℕ → ℤ
      height q = vol (at t.i) (at t.j) (at t.k) (at q)

      HasCorner : Triple → Type 0
      HasCorner u = ((h : ℕ) → In h (u.i ∷ u.j ∷ u.k ∷ []) → height h ≡ pos 0) × In l (u.i ∷ u.j ∷ u.k ∷ [])

      in_plane : (f : ℕ) → In f m.live → HasCorner (record { i = m.i f; j = m.j f; k = m.k f }) → CornerInPlane at m t.i t.j t.k l
      in_plane f live (level, c) = record {
        f = f;
        live = live;
        level = of_corners m f (λ h. height h ≡ pos 0) (level _ (inl refl)) (level _ (inr (inl refl))) (level _ (inr (inr (inl refl))));
        corner = each_of_three (IsCorner m f) (m.i f) (m.j f) (m.k f) (inl refl) (inr (inl refl)) (inr (inr refl)) l c;
      }

      by_height : Decided ((q : ℕ) × In q ids × (height q <ℤ pos 0)) → CornerInPlane at m t.i t.j t.k l
      by_height (inl (q, has, low)) = let c = corner_in_plane at ids (triples_of m') surface supporting t r q has low l x in
          of_facet (λ u. HasCorner u → CornerInPlane at m t.i t.j t.k l) in_plane c.0 c.1 c.2
      by_height (inr none) = let s = supporting t r in
          absurd (not_flat t.i t.j t.k s (λ q h. by_lt_z (height q) (pos 0) (λ low. absurd (none (q, h, low))) (le_antisym _ _ (s.supports q h))))

  -- each extreme id is a corner
  corner_of_extreme : (l : ℕ) → Extreme at (Members ids) l → IsLiveCorner m l
  corner_of_extreme l x =
      let e = closed_miss_no_extreme at ids (triples_of m') surface supporting l x in let c = corner_at e.0 e.1 l (x, e.2) in (c.f, c.live, c.corner)

  -- an extreme id of a supporting plane is a corner of a live facet in that plane
  corner_of_plane : (i j k : ℕ) → IsSupportingTriple at (Members ids) i j k → (l : ℕ) → OnPlane at (Extreme at (Members ids)) i j k l
      → CornerInPlane at m i j k l
  corner_of_plane i j k t l x =
      let r = found i j k t in
      let same = λ (h : ℕ). same_plane (at r.t.i) (at r.t.j) (at r.t.k) (at i) (at j) (at k) (at h) r.along r.level in
      let c = corner_at r.t r.there l (x.0, (same l).1 x.1) in
      record { f = c.f; live = c.live; level = λ h k. (same h).0 (c.level h k); corner = c.corner }

  -- a point that is above no facet is not beyond all members along a direction
  pub none_beyond : (w p : Vector) → ((f : ℕ) → In f m.live → vol (at (m.i f)) (at (m.j f)) (at (m.k f)) p ≤ℤ pos 0)
      → ((l : ℕ) → Members ids l → dot w (at l) <ℤ dot w p) → ⊥
  none_beyond w p blind beyond =
      not_less _ _ (sound_has_volume at m' z.s z.t z.u z.v z.some ((once.2 z.some).0 z.some_live) once.1 whole sound p)
      (seen_volume at p (triples_of m') (λ t r. by_lt_z (vol_at at p t) (pos 0) (λ low. absurd (none_below at w p (triples_of m') surface.closed
      (λ l (u, i, c). let s = supporting u i in beyond l (each_of_three (Members ids) u.i u.j u.k s.has_i s.has_j s.has_k l c))
      (of_facet (λ u. vol_at at p u ≤ℤ pos 0) blind) t r low)) (λ k. k)))

-- ---- the laws
-- proof of the law `ExtremesAreCorners`
pub extremes_are_corners : ExtremesAreCorners
extremes_are_corners = corner_of_extreme

-- proof of the law `FacetsSupport`
pub facets_support : FacetsSupport
facets_support = facet_supports

-- proof of the law `ExtremesOfPlaneAreCorners`
pub extremes_of_plane_are_corners : ExtremesOfPlaneAreCorners
extremes_of_plane_are_corners = corner_of_plane

-- proof of the law `PlanesHaveFacets`
pub planes_have_facets : PlanesHaveFacets
planes_have_facets = facet_of_plane
