-- A round of Quickhull: after a cone replaces the facets that the apex sees, only the released points need a test.
use Rattle.qh_model.proofs.Common.{All, ◌≡◌, ℕ, ◌<◌, arith, ap, sym, ◌∙◌, true, inl, inr, List, ◌∷◌, length, get_or, subst, pos, ◌<ℤ◌, ◌≤ℤ◌, get_or_read}
use Rattle.qh_model.proofs.Common.{cases_Bool, All-from_get_or, Weighted, above, weighted_at, middle_at, Surface, Side, end, IsRewired, StoredFacet, facet_at}
use Rattle.qh_model.proofs.Common.{surface_of, first, second, third, Vector, origin, vol, place, In, IsConeUnseen, IsUnseen}
use Rattle.qh_model.specs.contract.{Surface.start, Rewired.IsTriangle}
use Rattle.qh_model.proofs.{Members.All-In, algebra.Signs.not_less, surfaces.Unseen.dropped_stay_unseen}
use Rattle.qh_model.proofs.surfaces.SurfaceLaws.{rise_is_vol, settled_stay_unseen, corners_are_settled, added_is_settled}
use Rattle.qh_mesh.specs.contract.Replacement.{is_listed, IsLive, IsKept, IsReplacement}
use Rattle.qh_mesh.specs.contract.SoundMesh.{facet_vol, IsSoundMesh, IsClosedMesh, AreVisible}
use Rattle.qh_mesh.proofs.{ListedFacets.in_listed, ListedFacets.listed_in, Rewiring.live_in, Rewiring.in_live, Rewiring.rise-vol}
use Rattle.qh_surface.specs.{contract.OutsideSets.OutsideValue, contract.OutsideSets.set_of, contract.Corners.AreCornersBelow, steps.Settling.AreReleased}
use Rattle.qh_surface.specs.steps.Runs.{height_at, IsDone, RunState, with_waiting, with_first, IsUnderWay, IsPicked, IsRemade}
use Rattle.qh_surface.proofs.LiveFacets.{live_below}
use Rattle.qh_surface.proofs.runs.PickedApexes.{pending_within, apex_outside, still_outside, still_waits, still_all}

-- a point that no facet of the surface sees
module _ (pts : List Vector) (fs : List StoredFacet) (p : ℕ) where
  done_of : IsUnseen (surface_of fs) (weighted_at (place pts)) (weighted_at (place pts) p) → IsDone pts fs p
  done_of u f l = rw (rise-vol (place pts) fs f p) at (u f (in_live fs f l))

-- the state of a round after its replacement: the mesh, the facets that the apex saw, and the new facets
pub record IsRound (pts : List Vector) (old new : List StoredFacet) (vs : List ℕ) (a : ℕ) (made : List ℕ) : Type 0 where
  pub visible : AreVisible (place pts) old vs a
  pub replaced : IsReplacement old new vs a made
  pub rewired : IsRewired (surface_of old) (surface_of new) (weighted_at (place pts)) a
  pub sound : (o : Weighted) → IsSoundMesh (place pts) old o → IsSoundMesh (place pts) new o
  pub closed : IsClosedMesh (place pts) new

module _ {pts : List Vector} {old new : List StoredFacet} {vs made : List ℕ} {a : ℕ} (d : IsRound pts old new vs a made) where
  abbrev at : ℕ → Vector
  at = place pts

  abbrev home : ℕ → Weighted
  home = weighted_at (place pts)

  abbrev m : Surface
  m = surface_of old

  abbrev m' : Surface
  m' = surface_of new

  -- a facet that stays keeps its volumes
  stays-vol : (f : ℕ) (q : Vector) → IsKept old vs f → facet_vol at new f q ≡ facet_vol at old f q
  stays-vol f q h = let k = d.replaced.kept f h in λ i. vol (at (k.i_is i)) (at (k.j_is i)) (at (k.k_is i)) q

  -- the corners of the new facets are below n
  corners_stay : (n : ℕ) → AreCornersBelow n old → a < n → AreCornersBelow n new
  corners_stay n c l = record { i_in = λ f h. (below f h).0; j_in = λ f h. (below f h).1; k_in = λ f h. (below f h).2 }
    where
      corners : (f : ℕ) → IsLive old f → ((facet_at old f).i < n) × ((facet_at old f).j < n) × ((facet_at old f).k < n)
      corners f h = (c.i_in f h, c.j_in f h, c.k_in f h)

      ends : (g : ℕ) (s : Side) → IsLive old g → (start m g s < n) × (end m g s < n)
      ends g s i = let o = corners g i in
          elim s as (λ s. (start m g s < n) × (end m g s < n)) [ first ↦ (o.0, o.1) | second ↦ (o.1, o.2) | third ↦ (o.2, o.0) ]

      below : (f : ℕ) → IsLive new f → ((facet_at new f).i < n) × ((facet_at new f).j < n) × ((facet_at new f).k < n)
      below f h = elim (d.rewired.only f (in_live new f h)) [
        | inl x ↦ let k = d.rewired.kept f x.0 x.1 in let o = corners f (live_in old f x.0) in (rw k.i_is o.0, rw k.j_is o.1, rw k.k_is o.2)
        | inr x ↦ let t = d.rewired.cone x.0 x.1 x.2 in let o = ends x.0 x.1 (live_in old x.0 x.2.live) in
            (rw (ap m'.i x.3 ∙ t.i_is) o.0, rw (ap m'.j x.3 ∙ t.j_is) o.1, rw (ap m'.k x.3 ∙ t.k_is) l)
      ]

  -- around a point in the old mesh
  module _ {o : Weighted} (z : IsSoundMesh (place pts) old o) where
    -- the cone consists of the new facets
    cone_unseen : (q : ℕ) → All (λ f. height_at pts new f q ≤ℤ pos 0) made → IsConeUnseen m home (home a) (home q)
    cone_unseen q h f i s k b =
        let r = d.rewired in let g = r.number f s in
        let t : IsTriangle m' g (start m f s) (end m f s) a = r.cone f s (record { live = i; seen = k; blind = b }) in
        let same : above (home (start m f s)) (home (end m f s)) (home a) (home q) ≡ facet_vol at new g (at q) =
        rise_is_vol (at (start m f s)) (at (end m f s)) (at a) (at q) ∙ sym (λ n. vol (at (t.i_is n)) (at (t.j_is n)) (at (t.k_is n)) (at q)) in
        subst (λ v. v ≤ℤ pos 0) (sym same) (elim (d.replaced.only g (live_in new g t.live)) [
          | inl x ↦ let c = inr (inr (sym t.k_is ∙ (d.replaced.kept g x).k_is)) in
              absurd (not_less _ _ r.seen (corners_are_settled m home o z.1 r.f0 g r.live (in_live old g x.live) a c))
          | inr x ↦ All-In (λ f. height_at pts new f q ≤ℤ pos 0) made g h x
        ])

    -- a point that no facet saw is seen by no facet
    still_done : (p : ℕ) → IsDone pts old p → IsDone pts new p
    still_done p x = done_of pts new p (settled_stay_unseen m m' home o a z.0 z.1 d.rewired (home p)
        (λ f i. rw (rise-vol at old f p) (x f (live_in old f i))))

    -- a point that saw a removed facet and sees no new facet is seen by no facet
    drop_done : (p g : ℕ) → IsLive old g → is_listed vs g ≡ true → pos 0 <ℤ height_at pts old g p
        → All (λ f. height_at pts new f p ≤ℤ pos 0) made → IsDone pts new p
    drop_done p g l e s h f b = elim (d.replaced.only f b) [
      | inl k ↦ rw (stays-vol f (at p) k)
          (rw (rise-vol at old f p) at (dropped_stay_unseen m home o z.0 z.1 (home a) (home p) g (in_live old g l)
          (rw (rise-vol at old g a) (d.visible.seen g l e)) (rw (rise-vol at old g p) s) (cone_unseen p h)
          f (in_live old f k.live) (rw (rise-vol at old f a) (d.visible.unseen f k.live k.unlisted))))
      | inr i ↦ All-In (λ f. height_at pts new f p ≤ℤ pos 0) made f h i
    ]

-- so only the released points need a test
pub remade : {s : RunState} {new : List StoredFacet} {w : OutsideValue} {vs made : List ℕ} {f a : ℕ} → IsPicked s f a
    → IsRound s.points s.mesh new vs a made → AreReleased s.sets w vs → w.positions ≡ s.sets.positions → length w.sets ≡ length s.sets.sets
    → IsRemade (record { points = s.points; mesh = new; planes = s.planes; sets = w; pending = s.pending }) made
remade {s} {new} {w} {vs} {made} {f} {a} picked d rel e n = record {
  grown = record {
    s = k.grown.s;
    t = k.grown.t;
    u = k.grown.u;
    v = k.grown.v;
    s_in = k.grown.s_in;
    t_in = k.grown.t_in;
    u_in = k.grown.u_in;
    v_in = k.grown.v_in;
    volume = k.grown.volume;
    sound = d.sound (middle_at (place s.points) k.grown.s k.grown.t k.grown.u k.grown.v) k.grown.sound;
    closed = d.closed;
    corners = corners_stay d (length s.points) k.grown.corners picked.apex;
  };
  planes = λ g l. elim (d.replaced.only g l) [
    | inl h ↦ inl (
      (let l = live_below s.mesh g h.live in let r = k.planes.room in omega arith),
      λ p. k.planes.right g h.live p ∙ sym (stays-vol d g p h),
    )
    | inr h ↦ inr h
  ];
  made_live = All-from_get_or (IsLive new) made 0 (λ j l. (d.replaced.cone j l).live);
  positions = e ∙ k.positions;
  range = rw n (pending_within picked);
  settling = record {
    outside = λ g p i. let h = stays g p i in
        ((d.replaced.kept g h).live, rw (stays-vol d g (place s.points p) h) (still_outside picked g p (rel.kept g p i)).1);
    waits = λ g p i. elim (still_waits picked g p (rel.kept g p i)) [ inl h ↦ absurd (other g p i h) | inr h ↦ inl h ];
    all = λ p l. elim (still_all picked p l) [
      | inl o ↦ elim (rel.moved o.0 p o.1) [ inl h ↦ inr (inl (o.0, h)) | inr h ↦ inl h ]
      | inr (inl h) ↦ inr (inr (still_done d k.grown.sound p h))
      | inr (inr h) ↦ inr (inr (rw h
          (done_of s.points new a (added_is_settled (surface_of s.mesh) (surface_of new) (weighted_at (place s.points)) a d.rewired))))
    ];
    drops = λ p i u. elim (rel.orphans p i) [
      | inl h ↦ absurd (subst (In p) k.none h)
      | inr h ↦ let b = still_outside picked h.0 p h.2 in drop_done d k.grown.sound p h.0 b.0 (in_listed vs h.0 h.1) b.1 u
    ];
  };
}
  where
    k : IsUnderWay (with_waiting s (with_first s.sets f a) (f ∷ s.pending))
    k = picked.before

    -- a facet with an outside set stays
    stays : (g p : ℕ) → In p (set_of w g) → IsKept s.mesh vs g
    stays g p i = elim (cases_Bool (is_listed vs g)) [
      | inl h ↦ absurd (subst (In p) (rel.emptied g (listed_in vs g h)) i)
      | inr h ↦ record { live = (still_outside picked g p (rel.kept g p i)).0; unlisted = h }
    ]

    -- the facet is not the one that is processed
    other : (g p : ℕ) → In p (set_of w g) → g ≡ f → ⊥
    other g p i h =
        let seen = apex_outside picked in
        not_less _ _ seen.1 (d.visible.unseen f seen.0 (ap (is_listed vs) (sym h) ∙ (stays g p i).unlisted))

-- the point at a position of the list
pub read_point : (pts : List Vector) (a : ℕ) (point : Vector) → a < length pts → point ≡ get_or pts a point → point ≡ place pts a
unfolding place
read_point pts a point l h = get_or_read pts a point l h origin
