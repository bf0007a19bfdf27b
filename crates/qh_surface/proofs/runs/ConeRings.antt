-- The rings of large cones: the facts about their wedges, and the meaning of the results of a search.
use Rattle.qh_mesh.proofs.{EdgeSides.edge-facet, EdgeSides.twin-is, NumberCases.by_le, Rewiring.in_live, Rewiring.rise-vol}
use Rattle.qh_mesh.specs.contract.{Edges.edge_of, Edges.facet_of, Edges.twin_of, Replacement.IsLive, Replacement.IsReplacement, SoundMesh.facet_vol}
use Rattle.qh_model.proofs.Common.{◌≡◌, ℕ, ◌<◌, All, slice_index, arith, ap, sym, ◌∙◌, refl, List, [], ◌∷◌, ◌++◌, length, inl, inr, ℤ, pos, ◌≤ℤ◌, ◌<ℤ◌, ints}
use Rattle.qh_model.proofs.Common.{get_or_append_left, get_or_push, length_push, All-from_get_or, weighted_at, IsCorner, StoredFacet, facet_at, surface_of}
use Rattle.qh_model.proofs.{Common.second, Common.third, Common.Vector, Common.vol, Common.place, Common.In, Members.All-In, Members.All-of, Members.In-get_or}
use Rattle.qh_model.proofs.{Members.in_at, algebra.VectorIdentities.vol-flip, algebra.VectorIdentities.vol-flip_last, algebra.VectorIdentities.vol-swap_last}
use Rattle.qh_model.proofs.surfaces.{ConeRays.between_rays, SurfaceLaws.corners_are_settled}
use Rattle.{qh_pred.specs.contract.Planes.PlaneValue, qh_pred.specs.contract.Planes.height, qh_surface.specs.declared.quickhull.cone_ring.Wedge.Wedge}
use Rattle.qh_surface.specs.steps.Cones.{IsFan, apex_of, HasNoCornerAbove, no_wedge, wedge_at, IsWedge, AreWedges, AreTriangles, IsConePlane, IsBetweenRays}
use Rattle.qh_surface.specs.steps.{Cones.IsAmongRays, Planes.plane_at, Runs.IsPlaneOf, Runs.IsGrown, Settling.IsAboveNone}

-- ---- the facets of a cone
-- the neighbour across the second side is a new facet
pub fan_next : {fs : List StoredFacet} {made : List ℕ} {g : ℕ} (f : ℕ) → IsFan fs made
    → g ≡ facet_of (twin_of fs (edge_of f second)) → In f made → In g made
fan_next f k e n = rw e (k.closed f n)

-- the new facets of a replacement are a cone
pub cone_fan : {old new : List StoredFacet} {vs made : List ℕ} {apex : ℕ} → IsReplacement old new vs apex made → IsFan new made
cone_fan {new} {made} {apex} r =
    record { apex = apex; turned = All-from_get_or (λ f. (facet_at new f).k ≡ apex) made 0 (λ j l. (r.cone j l).third); closed = closed }
  where
    closed : (f : ℕ) → In f made → In (facet_of (twin_of new (edge_of f second))) made
    closed f i =
        let (j, l, e) = in_at made f i in let g = slice_index made (r.next j) in
        let t = twin-is new f second ∙ ap (λ g. (facet_at new g).jk) (sym e) ∙ r.next_twin j l in
        rw (t, edge-facet g third) (In-get_or made (r.next j) 0 (r.next_in j l))

-- no corner of a growing mesh is above a facet
pub grown_corners : {pts : List Vector} {fs : List StoredFacet} → IsGrown pts fs → HasNoCornerAbove pts fs
grown_corners {pts} {fs} k f g l m = (under (facet_at fs g).i (inl refl), under (facet_at fs g).j (inr (inl refl)))
  where
    under : (p : ℕ) → IsCorner (surface_of fs) g p → facet_vol (place pts) fs f (place pts p) ≤ℤ pos 0
    under p c = rw (rise-vol (place pts) fs f p)
        at (corners_are_settled (surface_of fs) (weighted_at (place pts)) _ k.sound.1 f g (in_live fs f l) (in_live fs g m) p c)

-- ---- the wedges
-- the corners of a triangle in cyclic order
vol_turn : (a b c p : Vector) → vol a b c p ≡ vol c a b p
vol_turn a b c p = let e = vol-flip_last a c b p in let f = vol-flip a c b p in omega (arith, ints)

-- the last three points of a volume in cyclic order
rest_turn : (a b c d : Vector) → vol a b c d ≡ vol a d b c
rest_turn a b c d = let e = vol-swap_last a b c d in let f = vol-flip_last a d b c in omega (arith, ints)

module _ (pts : List Vector) (fs : List StoredFacet) (ps : List PlaneValue) (made : List ℕ) where
  -- the corners of a facet at which a wedge begins and ends
  abbrev from_of : ℕ → Vector
  from_of f = place pts (facet_at fs f).i

  abbrev to_of : ℕ → Vector
  to_of f = place pts (facet_at fs f).j

  -- the plane of a new facet is that of a triangle at the apex
  made_plane : IsFan fs made → (f : ℕ) → IsPlaneOf pts fs ps f → In f made
      → (q : Vector) → height (plane_at ps f) q ≡ vol (apex_of pts fs made) (from_of f) (to_of f) q
  made_plane fan f p i q =
      let some : 0 < length made = (let l = (in_at made f i).1 in omega arith) in
      let turned = All-In (λ g. (facet_at fs g).k ≡ fan.apex) made f fan.turned i ∙ sym (fan.turned 0 0 some) in
      p.1 q ∙ vol_turn (from_of f) (to_of f) (place pts (facet_at fs f).k) q ∙ ap (λ n. vol (place pts n) (from_of f) (to_of f) q) turned

  -- a new facet is a wedge
  pub read_wedge : All (IsLive fs) made → HasNoCornerAbove pts fs → All (IsPlaneOf pts fs ps) made → IsFan fs made → (f : ℕ) → In f made
      → IsWedge ps made (apex_of pts fs made) (record { facet = f; plane = plane_at ps f; from = from_of f; to = to_of f })
  read_wedge live above planes fan f n =
      let wedge : Wedge = record { facet = f; plane = plane_at ps f; from = from_of f; to = to_of f } in
      let lives = All-In (IsLive fs) made in let plane_of = All-In (IsPlaneOf pts fs ps) made in record {
        named = n;
        plane = refl;
        triangle = made_plane fan f (plane_of f planes n) n;
        below = All-of (λ g. IsConePlane (apex_of pts fs made) wedge (plane_at ps g)) made (λ g i.
            let p = plane_of g planes i in let h = above g f (lives g live i) (lives f live n) in record {
              b = from_of g;
              c = to_of g;
              triangle = made_plane fan g p i;
              from_below = rw (p.1 (from_of f)) h.0;
              to_below = rw (p.1 (to_of f)) h.1;
            });
      }

-- a fact about each wedge, and one more wedge
pub each_more : (P : Wedge → Type 0) (ws : List Wedge) (w : Wedge) → ((i : ℕ) → i < length ws → P (wedge_at ws i)) → P w
    → (i : ℕ) → i < length (ws ++ w ∷ []) → P (wedge_at (ws ++ w ∷ []) i)
each_more P ws w k h i l = let n = length_push ws w in
    by_le _ i (length ws) (λ m. rw (get_or_append_left ws (w ∷ []) no_wedge i m) (k i m)) (λ m. rw (get_or_push ws w no_wedge i (omega arith)) h)

-- ---- the answers
-- a point that the search finds between rays of the ring: the first ray, and the rays of two wedges v (the first) and w
pub among : {a p : Vector} {ws : List Wedge} (i : ℕ) (v w : Wedge) (half : PlaneValue) → i < length ws
    → v ≡ wedge_at ws 0 → w ≡ wedge_at ws i → AreTriangles a ws → ((q : Vector) → height half q ≡ vol a v.from p q)
    → height w.plane v.from <ℤ pos 0 → height w.plane p ≤ℤ pos 0 → pos 0 ≤ℤ height half w.from → height half w.to ≤ℤ pos 0 → IsAmongRays a ws p
among {a} {p} {ws} i v w half l ev ew t h s u f g =
    let triangle : (q : Vector) → height w.plane q ≡ vol a w.from w.to q = rw ew (t i l) in
    let own : IsBetweenRays a v.from w.from w.to p = record {
      spans = rw (← rest_turn a w.from w.to v.from, ← triangle v.from) s;
      after_y = rw (← triangle p) u;
      after_z = rw (← rest_turn a v.from p w.to, ← h w.to) g;
      after_x = let e = h w.from in let d = vol-swap_last a v.from w.from p in omega (arith, ints);
    } in
    record { place = i; within = l; between = rw (← ev, ← ew) own }

-- a point among rays is above no facet
pub among_unseen : {ps : List PlaneValue} {made : List ℕ} {a p : Vector} {ws : List Wedge} → AreWedges ps made a ws
    → IsAmongRays a ws p → IsAboveNone ps made p
among_unseen {ps} {made} {a} {p} {ws} k r j d l =
    let own = (k r.place r.within).below j d l in let b = r.between in
    let x = (wedge_at ws 0).from in let y = (wedge_at ws r.place).from in let z = (wedge_at ws r.place).to in
    rw (own.triangle p) (between_rays a x y z own.b own.c p b.spans b.after_y b.after_z b.after_x
    (rw (← own.triangle x) ((k 0 (let h = r.within in omega arith)).below j d l).from_below)
    (rw (← own.triangle y) own.from_below) (rw (← own.triangle z) own.to_below))
