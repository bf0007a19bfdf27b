-- Sound meshes: the simplex, the result of a step, and that both are closed.
use Rattle.qh_mesh.proofs.Rewiring.{IsStep, rewired}
use Rattle.qh_mesh.specs.contract.Replacement.{IsLive}
use Rattle.qh_mesh.specs.contract.SoundMesh.{AreVisible, IsClosedMesh, IsSoundMesh, facet_vol, simplex_facets}
use Rattle.qh_model.proofs.Common.{In, IsFinished, List, StoredFacet, Vector, Weighted, [], arith, by_lt_z, cases_Bool, inl, ints, middle_at, pos, refl}
use Rattle.qh_model.proofs.Common.{signed_volume, simplex_surface, slice_index, subst, surface_of, sym, triples_of, vol, weighted, weighted_at, ℕ, ◌<ℤ◌, ◌∷◌}
use Rattle.qh_model.proofs.{Common.◌≡◌, Common.◌≢◌, Common.◌≤ℤ◌, algebra.Signs.less_le, algebra.Signs.not_less, algebra.VectorIdentities.vol-flip_last}
use Rattle.qh_model.proofs.surfaces.Closed.{of_facets, seen_volume, sound_has_volume, sound_is_closed}
use Rattle.qh_model.proofs.surfaces.{Named.IsNamed, Named.sound_named, Named.whole_named, Rewired.replace_keeps, Simplex.middle-turned, Simplex.simplex_sound}
use Rattle.qh_model.proofs.surfaces.{Stored.in_live, Stored.live_in, Stored.live_is_listed_once, SurfaceLaws.rise_is_vol}

-- a sound mesh with a facet is closed
pub closed_of : (at : ℕ → Vector) (fs : List StoredFacet) (s t u v f : ℕ) → IsLive fs f → IsSoundMesh at fs (middle_at at s t u v) → IsClosedMesh at fs
closed_of at fs s t u v f l z = let i = in_live fs f l in let o = live_is_listed_once fs in record {
  surface = sound_is_closed at (surface_of fs) s t u v f i o z.0 z.1;
  volume = sound_has_volume at (surface_of fs) s t u v f i o z.0 z.1;
}

-- so is a finished mesh
pub finished_is_closed : (at : ℕ → Vector) (ids : List ℕ) (fs : List StoredFacet) → IsFinished at ids (surface_of fs) → IsClosedMesh at fs
finished_is_closed at ids fs h = closed_of at fs h.s h.t h.u h.v h.some (live_in fs h.some h.some_live) (h.whole, h.sound)

-- ---- the simplex
module _ (at : ℕ → Vector) (a b c d : ℕ) where
  -- its facets are those of the law's, by computation
  simplex_named : IsNamed (simplex_surface a b c d) (surface_of (simplex_facets a b c d)) (λ l. l)
  simplex_named = grind arith

  -- with volume below 0 it is sound around its middle
  below_is_sound : vol (at a) (at b) (at c) (at d) <ℤ pos 0 → IsSoundMesh at (simplex_facets a b c d) (middle_at at a b c d)
  below_is_sound h =
      let below = subst (λ v. v <ℤ pos 0) (sym (rise_is_vol (at a) (at b) (at c) (at d))) h in
      let z = simplex_sound (weighted_at at) a b c d below in let home = weighted_at at in (
        whole_named simplex_named z.0,
        sound_named simplex_named home home (middle_at at a b c d) (λ l. l) (λ f i l c. refl) (λ f i l c. refl) z.1,
      )

  -- so it is sound and closed with volume that is neither 0 nor above
  module _ (n : vol (at a) (at b) (at c) (at d) ≢ pos 0) (h : pos 0 <ℤ vol (at a) (at b) (at c) (at d) → ⊥) where
    pub simplex_is_sound : IsSoundMesh at (simplex_facets a b c d) (middle_at at a b c d)
    simplex_is_sound = grind (arith, below_is_sound, by_lt_z)

    pub simplex_is_closed : IsClosedMesh at (simplex_facets a b c d)
    simplex_is_closed = closed_of at (simplex_facets a b c d) a b c d 0 refl simplex_is_sound

-- a simplex with volume above 0, reversed, is so too
module _ (at : ℕ → Vector) (a b c d : ℕ) (h : pos 0 <ℤ vol (at a) (at b) (at c) (at d)) where
  pub turned_is_sound : IsSoundMesh at (simplex_facets a c b d) (middle_at at a b c d)
  turned_is_sound =
      subst (IsSoundMesh at (simplex_facets a c b d)) (middle-turned (weighted (at a)) (weighted (at b)) (weighted (at c)) (weighted (at d)))
      (below_is_sound at a c b d (let e = vol-flip_last (at a) (at b) (at c) (at d) in omega (arith, ints)))

  pub turned_is_closed : IsClosedMesh at (simplex_facets a c b d)
  turned_is_closed = closed_of at (simplex_facets a c b d) a b c d 0 refl turned_is_sound

-- the properties of a new mesh
pub ruleset simplex_rules = (turned_is_sound, turned_is_closed, simplex_is_sound, simplex_is_closed)

-- ---- a step
module _ (old new : List StoredFacet) (vs : List ℕ) (p : ℕ) (made : List ℕ) (d : IsStep old new vs p made)
    (at : ℕ → Vector) where
  -- a step keeps a mesh sound
  pub step_is_sound : (o : Weighted) → IsSoundMesh at old o → AreVisible at old vs p → IsSoundMesh at new o
  step_is_sound o z v = replace_keeps (surface_of old) (surface_of new) (weighted_at at) o p z.0 z.1 (rewired old new vs p made d at o z v)

  module _ (s t u v : ℕ) (z : IsSoundMesh at old (middle_at at s t u v)) (visible : AreVisible at old vs p) where
    -- if no facet remained, all would see p
    all_seen : (surface_of new).live ≡ [] → (f : ℕ) → In f (surface_of old).live → pos 0 <ℤ facet_vol at old f (at p)
    all_seen = grind (arith, cases_Bool, live_in, in_live)

    -- so a facet remains
    step_leaves : (fs : List ℕ) → (surface_of new).live ≡ fs → (f : ℕ) × IsLive new f
    step_leaves [] e = absurd (not_less (signed_volume at (triples_of (surface_of old)) (at p)) (pos 0)
        ((closed_of at old s t u v (slice_index vs 0) (d.facets.live 0 0 visible.some) z).volume (at p))
        (seen_volume at (at p) (triples_of (surface_of old))
        (of_facets (surface_of old) (λ t. pos 0 ≤ℤ vol (at t.i) (at t.j) (at t.k) (at p)) (surface_of old).live (λ f i. less_le _ _ (all_seen e f i)))))
    step_leaves (f ∷ fs) e = (f, live_in new f (subst (In f) (sym e) (inl refl)))

    -- and the mesh is closed
    pub step_is_closed : IsClosedMesh at new
    step_is_closed = let f = step_leaves (surface_of new).live refl in
        closed_of at new s t u v f.0 f.1 (step_is_sound (middle_at at s t u v) z visible)
