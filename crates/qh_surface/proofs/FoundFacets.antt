-- A walk over all its facets found all facets that the apex sees.
use Rattle.qh_mesh.proofs.{ListedFacets.in_listed, ListedFacets.listed_in, Rewiring.live_in, Rewiring.in_live}
use Rattle.qh_mesh.specs.contract.{Replacement.IsLive, Replacement.is_listed, SoundMesh.facet_vol, SoundMesh.IsSoundMesh, SoundMesh.AreVisible}
use Rattle.qh_model.proofs.Common.{◌≡◌, ℕ, arith, sym, ◌∙◌, Bool, false, List, subst, inl, inr, ℤ, pos}
use Rattle.qh_model.proofs.Common.{◌<ℤ◌, by_lt_z, Weighted, weighted_at, Surface, Side, Sees, rise, StoredFacet, facet_at, surface_of, Vector, In, IsWalked}
use Rattle.qh_model.proofs.{Members.All-In, Members.in_at, algebra.Signs.equal_positive, surfaces.SurfaceLaws.rise_is_vol, surfaces.SurfaceLaws.walk_finds_all}
use Rattle.{qh_pred.specs.contract.Planes.PlaneValue, qh_pred.specs.contract.Planes.height, qh_surface.specs.contract.Walks.mark_at}
use Rattle.qh_surface.specs.{contract.Walks.IsMarked, contract.Walks.IsCrossed, contract.Walks.IsWalkFrom, steps.Planes.plane_at, steps.Planes.ArePlanes}

-- the facts about the facets that a walk found and about their neighbours
module _ (P : ℕ → Type 0) (fs : List StoredFacet) (before after : List Bool) (f : ℕ) (vs : List ℕ)
    (w : IsWalkFrom P fs before after f vs) where
  pub found_live : (g : ℕ) → In g vs → IsLive fs g
  found_live g = All-In (IsLive fs) vs g w.walk.facets.live

  pub found_passes : (g : ℕ) → In g vs → P g
  found_passes g = All-In P vs g w.walk.passes

  pub found_marked : (g : ℕ) → In g vs → IsMarked after g
  found_marked g = All-In (IsMarked after) vs g w.walk.marked

  pub found_over : (g : ℕ) (s : Side) → In g vs → P ((surface_of fs).over g s) → ¬ (IsMarked before ((surface_of fs).over g s))
      → In ((surface_of fs).over g s) vs
  found_over g s h p n =
      let r = in_at vs g h in
      elim (w.further.only _ (subst (IsCrossed P fs after) r.2 (w.crossed r.0 r.1) s p)) [ inl m ↦ absurd (n m) | inr i ↦ i ]

-- the facets that the apex, point l, sees by their planes
abbrev pub IsSeen : (ℕ → Vector) → List PlaneValue → ℕ → ℕ → Type 0
IsSeen at ps l g = pos 0 <ℤ height (plane_at ps g) (at l)

-- a walk over them, if no facet had a mark
module _ (at : ℕ → Vector) (fs : List StoredFacet) (ps : List PlaneValue) (o : Weighted) (l f : ℕ) (before after : List Bool)
    (vs : List ℕ) (a : ArePlanes at fs ps) (z : IsSoundMesh at fs o) (none : (g : ℕ) → mark_at before g ≡ false)
    (w : IsWalkFrom (IsSeen at ps l) fs before after f vs) where
  abbrev m : Surface
  m = surface_of fs

  abbrev vol : ℕ → ℤ
  vol g = facet_vol at fs g (at l)

  seen : (g : ℕ) → In g vs → pos 0 <ℤ vol g
  seen g h = equal_positive _ _ (a.right g (found_live (IsSeen at ps l) fs before after f vs w g h) (at l))
      (found_passes (IsSeen at ps l) fs before after f vs w g h)

  rise_is : (g : ℕ) → vol g ≡ rise m (weighted_at at) g (weighted_at at l)
  rise_is g = sym (rise_is_vol (at (facet_at fs g).i) (at (facet_at fs g).j) (at (facet_at fs g).k) (at l))

  grows : (g : ℕ) → In g m.live → (s : Side) → In g vs → Sees m (weighted_at at) (m.over g s) (weighted_at at l) → In (m.over g s) vs
  grows g i s h t =
      let n = live_in fs (m.over g s) (z.0 g i s).live in
      found_over (IsSeen at ps l) fs before after f vs w g s h
      (equal_positive _ _ (sym (a.right (m.over g s) n (at l) ∙ rise_is (m.over g s))) t) (λ q. (let e = none (m.over g s) in cc))

  walk : IsWalked m (weighted_at at) (weighted_at at l) (is_listed vs)
  walk = record {
    f0 = f;
    live = in_live fs f (found_live (IsSeen at ps l) fs before after f vs w f w.start);
    seen = equal_positive _ _ (rise_is f) (seen f w.start);
    has = in_listed vs f w.start;
    grows = λ g i s h t. in_listed vs (m.over g s) (grows g i s (listed_in vs g h) t);
  }

  -- the walk found all facets that the apex sees
  pub finds_all : AreVisible at fs vs l
  finds_all = record {
    some = (let r = (in_at vs f w.start).1 in omega arith);
    seen = λ g i e. seen g (listed_in vs g e);
    unseen = λ g i e. by_lt_z (pos 0) (vol g)
        (λ h. (let t = walk_finds_all m (weighted_at at) o z.0 z.1 (weighted_at at l) (is_listed vs) walk g (in_live fs g i)
        (equal_positive _ _ (rise_is g) h) in cc)) (λ h. h);
  }
