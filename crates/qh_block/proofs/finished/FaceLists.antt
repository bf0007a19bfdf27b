-- Faces that are gathered one after the other, each plane once.
use Rattle.qh_block.{proofs.flats.Polygons.three_members, specs.steps.Faces.IsFacetPolygon, specs.steps.Faces.IsNewPlane, specs.steps.Faces.IsNewFace}
use Rattle.{qh_block.specs.steps.Faces.AreMarkedFaces, qh_bodies.specs.contract.ApartPolygons.HasThree, qh_bodies.specs.contract.ApartPolygons.begin_alike}
use Rattle.{qh_bodies.specs.contract.ApartPolygons.HasThree.three, qh_mesh.specs.contract.Replacement.IsLive}
use Rattle.qh_model.proofs.Common.{get_or, take, ◌≡◌, inl, inr, ⊎_elim, ℕ, List, [], ◌∷◌, ◌++◌, sym, subst, refl, Bool, true, false, cases_Bool, IsDistinct}
use Rattle.qh_model.proofs.Common.{◌↔◌, ℤ, pos, ◌*ℤ◌, HasDistinctPoints, Surface, IsFinished, StoredFacet, surface_of, Vector, Extreme, cross, vol, In, Members}
use Rattle.qh_model.proofs.{Common.IsAlong, Common.IsLevelWith, Common.IsLevelFacet, Members.All-of}
use Rattle.qh_model.proofs.algebra.VectorIdentities.{vol-first, vol-second, vol-third}
use Rattle.qh_model.proofs.{extremes.Directions.vol_along, extremes.Directions.zero_along, extremes.SpanningTriples.planes_of_extremes, lists.Joined.in_append}
use Rattle.qh_model.proofs.{lists.Joined.of_append, polygons.Direction.polygon_as, polygons.PlaneTurns.level_along, surfaces.FacetPlanes.level_facets_span}
use Rattle.qh_model.proofs.surfaces.{FacetPlanes.level_itself, FacetPlanes.level_back, FacetPlanes.level_on, Finished.facet_area, Finished.facets_support}
use Rattle.{qh_model.proofs.surfaces.Stored.live_is_marked, qh_surface.specs.contract.Walks.mark_at, std.proofs.lemmas.Bool.Decides.Decides-eqb}
use Rattle.std.proofs.lemmas.{Cmp.nat_list_eq_equiv, Cmp.on_equiv, List.Folds.list_any_none, Map.Keys.IsDistinct-push, Slice.Eq.slice_eq-Decides}

module _ (at : ℕ → Vector) (ids : List ℕ) (fs : List StoredFacet) (d : HasDistinctPoints at (Members ids))
    (z : IsFinished at ids (surface_of fs)) where
  abbrev m : Surface
  m = surface_of fs

  abbrev IsFace : ℕ → List ℕ → Type 0
  IsFace f q = IsFacetPolygon at (Members ids) fs f q

  lives : (g : ℕ) → IsLive fs g → In g m.live
  lives g l = (live_is_marked fs g).1 l

  -- a face in terms of another facet of its plane
  told : (f g : ℕ) → IsLive fs f → IsLive fs g → IsLevelFacet at m f g → (q : List ℕ) → IsFace f q → IsFace g q
  told f g l l' level q p =
      let h = level_facets_span at ids m z f g (lives f l) (lives g l') level in
      polygon_as at _ _ _ _ q (λ i. (λ o. (o.0, (h.same i).0 o.1), λ o. (o.0, (h.same i).1 o.1))) h.along p

  -- a face has three members, since three extreme ids span its plane
  three_of_face : (f : ℕ) → IsLive fs f → (q : List ℕ) → IsFace f q → HasThree q
  three_of_face f l q p =
      let s = planes_of_extremes at ids d (m.i f) (m.j f) (m.k f) (facets_support at ids m z f (lives f l)) in
      let has : (y : ℕ) → Extreme at (Members ids) y → vol (at s.u) (at s.v) (at s.w) (at y) ≡ pos 0 → In y q =
      (λ y e h. (p.members y).1 (e, (s.same y).1 h)) in
      three_members at q s.u s.v s.w (has s.u s.has_u (vol-first _ _ _)) (has s.v s.has_v (vol-second _ _ _)) (has s.w s.has_w (vol-third _ _ _)) s.area

  -- its first three ids span its plane
  over : List ℕ → ℕ → ℤ
  over q x = vol (at (get_or q 0 0)) (at (get_or q 1 0)) (at (get_or q 2 0)) (at x)

  spans : (f : ℕ) → IsLive fs f → (q : List ℕ) → HasThree q → IsFace f q → (x : ℕ) → IsLevelWith at m f x ↔ (over (take 3 q) x ≡ pos 0)
  unfolding over
  spans f l _ (three a b c q) p x = (zero_along h.s h.t _ _ h.some_t scale, zero_along h.t h.s _ _ h.some_s (sym scale))
    where
      on : (y : ℕ) → In y (a ∷ b ∷ c ∷ q) → IsLevelWith at m f y
      on y i = ((p.members y).0 i).1

      h : IsAlong (cross (at (m.i f)) (at (m.j f)) (at (m.k f))) (cross (at a) (at b) (at c))
      h = level_along (at (m.i f)) (at (m.j f)) (at (m.k f)) (at a) (at b) (at c) (facet_area at ids m z f (lives f l))
          (on a (inl refl)) (on b (inr (inl refl))) (on c (inr (inr (inl refl))))
          (p.round a b (inl (refl, refl)) c (inr (inr (inl refl))) (λ e. p.once.0 (inr (inl (sym e)))) (λ e. p.once.1.0 (inl (sym e))))

      scale : pos h.s *ℤ vol (at (m.i f)) (at (m.j f)) (at (m.k f)) (at x) ≡ pos h.t *ℤ vol (at a) (at b) (at c) (at x)
      scale = vol_along _ _ _ (at a) (at b) (at c) (at x) h (on a (inl refl))

  -- at the start there is no face
  pub no_faces : (marks : List Bool) → ((g : ℕ) → mark_at marks g ≡ true → ⊥) → AreMarkedFaces at (Members ids) fs marks []
  unfolding IsDistinct
  no_faces marks n = record {
    each = λ f l h. absurd (n f h);
    only = λ q i. absurd i;
    whole = λ f g l l' h level. absurd (n f h);
    apart = record { three = λ q i. absurd i; apart = tt };
  }

  module _ (marks : List Bool) (qs : List (List ℕ)) (old : AreMarkedFaces at (Members ids) fs marks qs) (f : ℕ) (l : IsLive fs f)
      (fresh : mark_at marks f ≡ false) where
    unmarked : mark_at marks f ≡ true → ⊥
    unmarked e = cc

    -- an unmarked facet is in the plane of no marked one
    pub new_plane : IsNewPlane at fs marks f
    new_plane g l' h level = unmarked (old.whole g f l' l h (level_back at ids m z f g (lives f l) (lives g l') level))

    -- the face of an unmarked facet is one more face
    pub next_face : (after : List Bool) (q : List ℕ) → IsNewFace at (Members ids) fs f marks after q
        → AreMarkedFaces at (Members ids) fs after (qs ++ q ∷ [])
    next_face after q new = record {
      each = λ g l' h. ⊎_elim (λ k. let r = old.each g l' k in (r.0, in_append qs (q ∷ []) r.0 (inl r.1), r.2))
          (λ k. (q, in_append qs (q ∷ []) q (inr (inl refl)), told f g l l' k.1 q new.polygon)) (new.only g h);
      only = λ p i. ⊎_elim (λ h. let r = old.only p h in (r.0, r.1, new.kept r.0 r.2, r.3))
          (λ h. (f, l, new.marked f l (level_itself at m f), last p h)) (of_append qs (q ∷ []) p i);
      whole = λ g h l' l'' e level. ⊎_elim (λ k. new.kept h (old.whole g h l' l'' k level))
          (λ k. new.marked h l'' (level_on at ids m z f g h (lives f l) (lives g l') k.1 level)) (new.only g e);
      apart = record {
        three = λ p i. ⊎_elim (λ h. old.apart.three p h) (λ h. three_of_face f l p (last p h)) (of_append qs (q ∷ []) p i);
        apart = IsDistinct-push (on_equiv (take 3) nat_list_eq_equiv) qs q old.apart.apart
            (list_any_none (begin_alike q) qs (All-of (λ p. begin_alike q p ≡ false) qs other));
      };
    }
      where
        last : (p : List ℕ) → In p (q ∷ []) → IsFace f p
        last p h = ⊎_elim (λ e. subst (IsFace f) (sym e) new.polygon) (λ n. absurd n) h

        -- a face gathered before is of another plane, so it begins with other ids
        other : (p : List ℕ) → In p qs → begin_alike q p ≡ false
        other p i = ⊎_elim (λ e. absurd (unmarked (alike e))) (λ e. e) (cases_Bool (begin_alike q p))
          where
            alike : begin_alike q p ≡ true → mark_at marks f ≡ true
            alike e =
                let o = old.only p i in let same = (slice_eq-Decides Decides-eqb (take 3 q) (take 3 p) (begin_alike q p) refl).0 e in
                let own = spans f l q (three_of_face f l q new.polygon) new.polygon in
                old.whole o.0 f o.1 l o.2 (λ x c. (spans o.0 o.1 p (old.apart.three p i) o.3 x).1
                (subst (λ (t : List ℕ). over t x ≡ pos 0) same ((own x).0 (level_itself at m f x c))))
