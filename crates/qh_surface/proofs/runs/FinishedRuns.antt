-- From new facets to the next round, and from the last round to a finished surface.
use Rattle.qh_model.proofs.Common.{All, ◌≡◌, ℕ, ◌<◌, ◌≤◌, sym, ◌∙◌, refl, inl, inr, List, [], ◌∷◌, length, subst}
use Rattle.qh_model.proofs.Common.{pos, ◌<ℤ◌, IsFinished, StoredFacet, surface_of, signed_volume, triples_from, Vector, origin, place, In, range_with_len}
use Rattle.qh_model.proofs.{algebra.Signs.less_one_way, lists.Ranges.range_has, lists.Ranges.range_below}
use Rattle.{qh_pred.specs.contract.Planes.PlaneValue, qh_mesh.specs.contract.SoundMesh.IsClosedMesh, qh_mesh.proofs.Rewiring.live_in}
use Rattle.qh_surface.specs.contract.OutsideSets.{OutsideValue, set_of}
use Rattle.qh_surface.specs.steps.{Planes.ArePlanes, Runs.AreDone, Runs.IsGrown, Runs.RunState, Runs.IsUnderWay, Runs.IsSettling, Runs.IsRemade}

-- after all orphans are settled and the facets with outside sets wait, the next round can begin
pub next_round : {s : RunState} {ps : List PlaneValue} {w : OutsideValue} {made waiting : List ℕ} → IsRemade s made
    → ArePlanes (place s.points) s.mesh ps → IsSettling s.points s.mesh w s.pending made → w.orphans ≡ []
    → w.positions ≡ s.sets.positions → length s.mesh ≤ length w.sets → All (λ f. f < length w.sets) waiting
    → ((f : ℕ) → In f s.pending → In f waiting) → ((f p : ℕ) → In f made → In p (set_of w f) → In f waiting)
    → IsUnderWay (record { points = s.points; mesh = s.mesh; planes = ps; sets = w; pending = waiting })
next_round k planes z o e room within kept more = record {
  grown = k.grown;
  planes = planes;
  positions = e ∙ k.positions;
  places = room;
  range = within;
  outside = z.outside;
  none = o;
  waits = λ f p i. elim (z.waits f p i) [ inl n ↦ kept f n | inr n ↦ more f p n i ];
  all = λ p l. elim (z.all p l) [ inl i ↦ absurd (rw o at i) | inr h ↦ h ];
}

-- a closed mesh has a facet
some_facet : (at : ℕ → Vector) (fs : List StoredFacet) → IsClosedMesh at fs → (f : ℕ) × In f (surface_of fs).live
some_facet at fs c = along_list (surface_of fs).live refl
  where
    along_list : (gs : List ℕ) → (surface_of fs).live ≡ gs → (f : ℕ) × In f (surface_of fs).live
    along_list [] e = let h = subst (λ (gs : List ℕ). signed_volume at (triples_from (surface_of fs) gs) origin <ℤ pos 0) e (c.volume origin) in
        absurd (less_one_way (pos 0) (pos 0) h h)
    along_list (g ∷ gs) e = (g, subst (In g) (sym e) (inl refl))

-- a mesh that sees no point of the list is finished
pub finished : (pts : List Vector) (fs : List StoredFacet) → IsGrown pts fs → AreDone pts fs
    → IsFinished (place pts) (range_with_len 0 (length pts)) (surface_of fs)
finished pts fs k d = record {
  s = k.s;
  t = k.t;
  u = k.u;
  v = k.v;
  has_s = range_has (length pts) k.s k.s_in;
  has_t = range_has (length pts) k.t k.t_in;
  has_u = range_has (length pts) k.u k.u_in;
  has_v = range_has (length pts) k.v k.v_in;
  volume = k.volume;
  whole = k.sound.0;
  sound = k.sound.1;
  some = (some_facet (place pts) fs k.closed).0;
  some_live = (some_facet (place pts) fs k.closed).1;
  corners = λ f i l c. range_has (length pts) l (let live = live_in fs f i in elim c [
    | inl e ↦ rw e (k.corners.i_in f live)
    | inr (inl e) ↦ rw e (k.corners.j_in f live)
    | inr (inr e) ↦ rw e (k.corners.k_in f live)
  ]);
  unseen = λ f i l m. d l (range_below (length pts) l m) f (live_in fs f i);
}
