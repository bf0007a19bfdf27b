-- After a replacement twins are mutual again, and a replacement of the facets that a point sees is a step of Quickhull.
use Rattle.qh_model.proofs.Common.{slice_index, ◌≡◌, ℕ, ◌/◌, ◌<◌, ◌⊎◌, arith, ap, sym, ◌∙◌, refl, true, false, inl, inr, List, length, subst, cases_Bool}
use Rattle.qh_model.proofs.Common.{false_from_ne_true, pos, weighted_at, IsHorizonSide, IsRewired, StoredFacet, facet_at, surface_of, Side, Surface, end, Sees}
use Rattle.qh_model.proofs.Common.{IsBlindTo, rise, first, second, third, Weighted, In, Vector}
use Rattle.std.proofs.lemmas.Bool.{true_from_ne_false}
use Rattle.qh_model.specs.contract.{Rewired.LinksTo, Surface.start}
pub use Rattle.qh_model.proofs.surfaces.Stored.{live_in, in_live}
use Rattle.qh_model.proofs.{Members.In-get_or, Members.in_at, algebra.Signs.not_less, surfaces.SurfaceLaws.rise_is_vol, surfaces.SurfaceLaws.horizon_is_known}
use Rattle.qh_mesh.specs.contract.Edges.{edge_end, edge_of, edge_start, facet_of, side_of_edge, twin_of}
use Rattle.qh_mesh.specs.contract.Replacement.{is_listed, horizon, IsLive, AreFacets, IsCone, IsKept, StaysFacet, IsReplacement}
use Rattle.qh_mesh.specs.contract.SoundMesh.{facet_vol, IsSoundMesh, AreVisible}
use Rattle.qh_mesh.specs.steps.{Kept.outer_of, Twins.HasTwin, Twins.HasTwins}
use Rattle.qh_mesh.proofs.EdgeSides.{edge-facet, edge_is, twins_by_side, start-is, end-is, twin-is, over-is, back-is}
use Rattle.qh_mesh.proofs.HorizonSides.{edge, on_horizon, horizon_twin, horizon_at, same_place}
use Rattle.qh_mesh.proofs.ListedFacets.{in_listed, listed_live}

module _ (fs : List StoredFacet) (f : ℕ) (s : Side) where
  -- the neighbour is the facet of the twin
  pub over-twin : (surface_of fs).over f s ≡ facet_of (twin_of fs (edge_of f s))
  over-twin = over-is fs f s ∙ ap (λ v. v / 3) (sym (twin-is fs f s))

  -- the twin is the edge over the side
  twin-edge : twin_of fs (edge_of f s) ≡ edge_of ((surface_of fs).over f s) ((surface_of fs).back f s)
  twin-edge = twin-is fs f s ∙ sym ((λ i. edge_of (over-is fs f s i) (back-is fs f s i)) ∙ edge_is (outer_of (facet_at fs f) s))

  -- the link over a side, given by its twin
  links : (g : ℕ) (t : Side) → twin_of fs (edge_of f s) ≡ edge_of g t → LinksTo (surface_of fs) f s g t
  links = grind arith

-- the height of a point above a facet is the volume with it
pub rise-vol : (at : ℕ → Vector) (fs : List StoredFacet) (f p : ℕ) → rise (surface_of fs) (weighted_at at) f (weighted_at at p) ≡ facet_vol at fs f (at p)
rise-vol at fs f p = rise_is_vol (at (facet_at fs f).i) (at (facet_at fs f).j) (at (facet_at fs f).k) (at p)

-- a replacement of facets of a surface
pub record IsStep (old new : List StoredFacet) (vs : List ℕ) (p : ℕ) (made : List ℕ) : Type 0 where
  pub twins : HasTwins old
  pub facets : AreFacets old vs
  pub replaced : IsReplacement old new vs p made

module _ (old new : List StoredFacet) (vs : List ℕ) (p : ℕ) (made : List ℕ) (d : IsStep old new vs p made) where
  abbrev r : IsReplacement old new vs p made
  r = d.replaced

  -- ---- twins
  -- edges of live facets that are mutual twins, if their ends match
  both : (x y : ℕ) → IsLive new (x / 3) → IsLive new (y / 3) → twin_of new x ≡ y → twin_of new y ≡ x
      → edge_start new y ≡ edge_end new x → edge_end new y ≡ edge_start new x → HasTwin new x × HasTwin new y
  both = grind arith

  -- an edge of a remaining facet has the same ends
  ends_stay : (e : ℕ) → StaysFacet old new vs (e / 3) → (edge_start new e ≡ edge_start old e) × (edge_end new e ≡ edge_end old e)
  ends_stay e k = let m = surface_of old in let m' = surface_of new in let f = e / 3 in
      elim (side_of_edge e) as (λ s. (start m' f s ≡ start m f s) × (end m' f s ≡ end m f s)) [
        | first ↦ (k.i_is, k.j_is)
        | second ↦ (k.j_is, k.k_is)
        | third ↦ (k.k_is, k.i_is)
      ]

  -- a side of the facet of the cone over edge j
  abbrev side : ℕ → Side → ℕ
  side j s = edge_of (slice_index made j) s

  live_side : (j : ℕ) (s : Side) → j < length made → IsLive new (side j s / 3)
  live_side j s l = subst (IsLive new) (sym (edge-facet (slice_index made j) s)) (r.cone j l).live

  -- its first side, and the edge across the horizon
  across : (j : ℕ) → j < length made → HasTwin new (side j first) × HasTwin new (twin_of old (edge old vs j))
  across j l =
      let c = r.cone j l in let f = slice_index made j in let e = edge old vs j in let o = twin_of old e in
      let n = r.len in let q = horizon_twin old vs d.twins d.facets j (omega arith) in
      let k = r.kept (o / 3) q.1 in let s = ends_stay o k in
      both (side j first) o (live_side j first l) k.live (twin-is new f first ∙ c.outward) (c.inward ∙ omega arith)
      (s.0 ∙ q.0.starts ∙ sym (end-is new f first ∙ c.second)) (s.1 ∙ q.0.ends ∙ sym (start-is new f first ∙ c.first))

  -- its second side, and the third side of the next facet
  beside : (j : ℕ) → j < length made → HasTwin new (side j second) × HasTwin new (side (r.next j) third)
  beside j l =
      let i = r.next j in let m = r.next_in j l in let c = r.cone j l in let k = r.cone i m in
      let f = slice_index made j in let g = slice_index made i in
      both (side j second) (side i third) (live_side j second l) (live_side i third m)
      (twin-is new f second ∙ r.next_twin j l) (twin-is new g third ∙ r.next_back j l) (start-is new g third ∙ k.third ∙ sym (end-is new f second ∙ c.third))
      (end-is new g third ∙ k.first ∙ r.next_starts j l ∙ sym (start-is new f second ∙ c.second))

  -- an edge of a remaining facet, depending on whether the facet across remains
  kept : (e : ℕ) → IsKept old vs (e / 3) → HasTwin new e
  kept e k =
      let n = r.kept (e / 3) k in let q = d.twins e k.live in let o = twin_of old e in
      let u = ap (λ x. is_listed vs (x / 3)) q.back ∙ k.unlisted in
      elim (cases_Bool (is_listed vs (o / 3))) [
        | inl h ↦ (let p = horizon_at old vs o h u in let l = p.1 in let z = r.len in
            subst (HasTwin new) (ap (twin_of old) p.2 ∙ q.back) (across p.0 (omega arith)).1)
        | inr h ↦ (let g = r.kept (o / 3) (record { live = q.live; unlisted = h }) in
            (both e o n.live g.live (n.twins e refl h) (g.twins o refl u ∙ q.back)
            ((ends_stay o g).0 ∙ q.starts ∙ sym (ends_stay e n).1) ((ends_stay o g).1 ∙ q.ends ∙ sym (ends_stay e n).0)).0)
      ]

  -- so each edge of each live facet has its twin, if each facet of the cone is the next of one
  module _ (before : (j : ℕ) → j < length made → (i : ℕ) × (i < length made) × (r.next i ≡ j)) where
    cone_twin : (j : ℕ) → j < length made → (s : Side) → HasTwin new (side j s)
    cone_twin j l first = (across j l).0
    cone_twin j l second = (beside j l).0
    cone_twin j l third = let b = before j l in subst (λ i. HasTwin new (side i third)) b.2 (beside b.0 b.1).1

    pub twins_after : HasTwins new
    twins_after = twins_by_side new (λ f l s. elim (r.only f l) [
      | inl k ↦ kept (edge_of f s) (subst (IsKept old vs) (sym (edge-facet f s)) k)
      | inr i ↦ (let (j, m, q) = in_at made f i in subst (λ g. HasTwin new (edge_of g s)) q (cone_twin j m s))
    ])

  -- ---- a step that removes what p sees
  module _ (place : ℕ → Vector) (o : Weighted) (z : IsSoundMesh place old o) (visible : AreVisible place old vs p) where
    abbrev m : Surface
    m = surface_of old

    abbrev home : ℕ → Weighted
    home = weighted_at place

    abbrev IsSide : ℕ → Side → Type 0
    IsSide f s = IsHorizonSide m home (home p) f s

    abbrev IsSeen : ℕ → Type 0
    IsSeen f = Sees m home f (home p)

    abbrev IsBlind : ℕ → Type 0
    IsBlind f = IsBlindTo m home f (home p)

    module _ (f : ℕ) (l : IsLive old f) where
      -- a listed facet sees p, and every other one is blind to it
      listed_seen : is_listed vs f ≡ true → IsSeen f
      listed_seen e = rw (rise-vol place old f p) (visible.seen f l e)

      unlisted_blind : is_listed vs f ≡ false → IsBlind f
      unlisted_blind e = rw (rise-vol place old f p) (visible.unseen f l e)

      -- and conversely
      seen_listed : IsSeen f → is_listed vs f ≡ true
      seen_listed s = true_from_ne_false (is_listed vs f) (λ e. not_less (pos 0) (rise m home f (home p)) s (unlisted_blind e))

      blind_unlisted : IsBlind f → is_listed vs f ≡ false
      blind_unlisted b = false_from_ne_true (is_listed vs f) (λ e. not_less (pos 0) (rise m home f (home p)) (listed_seen e) b)

    -- an edge of the horizon's list is a side of the horizon
    horizon_side : (j : ℕ) → j < length (horizon old vs) → IsSide (edge old vs j / 3) (side_of_edge (edge old vs j))
    horizon_side j l =
        let e = edge old vs j in let h = (on_horizon old vs j l).0 in let live = listed_live old vs d.facets (e / 3) h in
        let k = (horizon_twin old vs d.twins d.facets j l).1 in
        record {
          live = in_live old (e / 3) live;
          seen = listed_seen (e / 3) live h;
          blind = subst IsBlind (sym (over-is old (e / 3) (side_of_edge e))) (unlisted_blind (twin_of old e / 3) k.live k.unlisted);
        }

    -- if a neighbour is blind, it is not listed
    over_unlisted : (f : ℕ) (s : Side) → In f m.live → IsBlind (m.over f s) → is_listed vs (twin_of old (edge_of f s) / 3) ≡ false
    over_unlisted f s i b =
        ap (is_listed vs) (sym (over-twin old f s))
        ∙ blind_unlisted (m.over f s) (live_in old (m.over f s) (z.0 f i s).live) b

    -- the facet of the cone over a side of the horizon, which lies across from the former neighbour's position
    abbrev over : ℕ → Side → ℕ
    over f s = twin_of new (twin_of old (edge_of f s)) / 3

    cone_no : (j : ℕ) → j < length made → twin_of new (twin_of old (edge old vs j)) / 3 ≡ slice_index made j
    cone_no j l = ap (λ x. x / 3) (r.cone j l).inward ∙ omega arith

    -- the position of a side on the horizon
    place_of : (f : ℕ) (s : Side) → IsSide f s → (j : ℕ) × (j < length made) × (edge old vs j ≡ edge_of f s)
    place_of f s e =
        let listed = ap (is_listed vs) (edge-facet f s) ∙ seen_listed f (live_in old f e.live) e.seen in
        let q = horizon_at old vs (edge_of f s) listed (over_unlisted f s e.live e.blind) in
        let l = q.1 in let n = r.len in (q.0, omega arith, q.2)

    is_kept : (f : ℕ) → In f m.live → IsBlind f → IsKept old vs f
    is_kept f i b = record { live = live_in old f i; unlisted = blind_unlisted f (live_in old f i) b }

    only : (f : ℕ) → IsKept old vs f ⊎ In f made → (In f m.live × IsBlind f) ⊎ ((g : ℕ) × (s : Side) × IsSide g s × (f ≡ over g s))
    only f (inl k) = inl (in_live old f k.live, unlisted_blind f k.live k.unlisted)
    only f (inr i) = let (j, l, e) = in_at made f i in let x = edge old vs j in let n = r.len in
        inr (x / 3, side_of_edge x, horizon_side j (omega arith), rw (edge_is x, cone_no j l) (sym e))

    -- a facet of the cone, by the side of the horizon
    cone : (f : ℕ) (s : Side) → IsSide f s → IsCone old new (edge_of f s) p (over f s)
    cone f s e = let j = place_of f s e in rw (← j.2, cone_no j.0 j.1) (r.cone j.0 j.1)

    -- a side whose neighbour is removed is linked to the cone
    outward : (f : ℕ) (s : Side) → In f m.live → IsBlind f → Sees m home (m.over f s) (home p)
        → twin_of new (edge_of f s) ≡ edge_of (over (m.over f s) (m.back f s)) first
    outward f s i b v =
        let t = z.0 f i s in
        let l = subst (IsLive old) (sym (edge-facet f s)) (live_in old f i) in
        ap (twin_of new) (sym (ap (twin_of old) (sym (twin-edge old f s)) ∙ (d.twins (edge_of f s) l).back))
        ∙ (cone (m.over f s) (m.back f s) (record { live = t.live; seen = v; blind = subst IsBlind (sym t.returns) b })).inward
        ∙ omega arith

    -- the facet after that of (f, s) is that of (g, t)
    next-is : (f : ℕ) (s : Side) (g : ℕ) (t : Side) (e : IsSide f s) (e' : IsSide g t) → start m g t ≡ end m f s
        → r.next (place_of f s e).0 ≡ (place_of g t e').0
    next-is f s g t e e' q =
        let j = place_of f s e in let i = place_of g t e' in let n = r.next j.0 in let x = edge old vs n in let k = r.len in
        let l : n < length (horizon old vs) = (let a = r.next_in j.0 j.1 in omega arith) in let b = i.1 in
        let starts = r.next_starts j.0 j.1 ∙ ap (edge_end old) j.2 ∙ end-is old f s ∙ sym q in
        let same = horizon_is_known m home o z.0 z.1 (home p)
        (x / 3) g (side_of_edge x) t (horizon_side n l) e' (inl starts) in
        same_place old vs d.facets n i.0 l (omega arith) (sym (edge_is x) ∙ (λ i. edge_of (same.0 i) (same.1 i)) ∙ sym i.2)

    -- they are neighbours
    next_twin : (f : ℕ) (s : Side) (g : ℕ) (t : Side) → IsSide f s → IsSide g t → start m g t ≡ end m f s
        → ((facet_at new (over f s)).jk ≡ edge_of (over g t) third) × ((facet_at new (over g t)).ki ≡ edge_of (over f s) second)
    next_twin f s g t e e' q =
        let j = place_of f s e in let i = place_of g t e' in let n = next-is f s g t e e' q in
        rw (← j.2, ← i.2, cone_no j.0 j.1, cone_no i.0 i.1, ← n) (r.next_twin j.0 j.1, r.next_back j.0 j.1)

    -- the step is one of Quickhull
    pub rewired : IsRewired m (surface_of new) home p
    rewired = record {
      number = over;
      f0 = slice_index vs 0;
      live = in_live old (slice_index vs 0) (d.facets.live 0 0 visible.some);
      seen = let f = slice_index vs 0 in
          listed_seen f (d.facets.live 0 0 visible.some) (in_listed vs f (In-get_or vs 0 0 visible.some));
      only = λ f i. only f (r.only f (live_in new f i));
      kept = λ f i b. let k = r.kept f (is_kept f i b) in
          record { live = in_live new f k.live; i_is = k.i_is; j_is = k.j_is; k_is = k.k_is };
      cone = λ f s e.
          let c = cone f s e in
          let i = c.first ∙ start-is old f s in let j = c.second ∙ end-is old f s in
          record { live = in_live new (over f s) c.live; i_is = i; j_is = j; k_is = c.third };
      inside = λ f s i b b'.
          let k = r.kept f (is_kept f i b) in
          links new f s (m.over f s) (m.back f s) (k.twins (edge_of f s) (edge-facet f s) (over_unlisted f s i b') ∙ twin-edge old f s);
      outside = λ f s i b v. links new f s (over (m.over f s) (m.back f s)) first (outward f s i b v);
      base = λ f s e. links new (over f s) first (m.over f s) (m.back f s)
          (twin-is new (over f s) first ∙ (cone f s e).outward ∙ twin-edge old f s);
      next = λ f s g t e e' q. links new (over f s) second (over g t) third (twin-is new (over f s) second ∙ (next_twin f s g t e e' q).0);
      prev = λ f s g t e e' q. links new (over f s) third (over g t) second
          (twin-is new (over f s) third ∙ (next_twin g t f s e' e (sym q)).1);
    }
