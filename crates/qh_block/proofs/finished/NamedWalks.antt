-- A walk in the plane of a facet of a mesh over positions is a walk of the same mesh over ids.
use Rattle.qh_model.proofs.Common.{◌≡◌, ◌∙◌, ℕ, ◌<◌, inl, inr, List, length, ap, sym, subst, refl, Bool, get_or-map}
use Rattle.qh_model.proofs.Common.{◌↔◌, slice_index, Side, Surface, IsCorner, IsWhole, surface_of, Vector, origin, place, vol, In, IsLevelFacet, IsLevelWith}
use Rattle.qh_model.proofs.{Members.All-In, Members.All-of, Members.In-get_or, surfaces.Stored.live_is_marked}
use Rattle.{qh_mesh.specs.contract.Names.name_in, qh_mesh.specs.contract.Replacement.IsLive, qh_surface.specs.contract.NamedMeshes.named}
use Rattle.qh_surface.specs.{contract.NamedMeshes.IsNamedMesh, contract.Walks.IsMarked, contract.Walks.IsWalkFrom, declared.named_mesh.NamedMesh.NamedMesh}
use Rattle.qh_surface.proofs.{NamedFacets.names, NamedFacets.named_live, NamedFacets.live_before, runs.OrderedIds.name_is}

module _ (n : NamedMesh) where
  abbrev m : Surface
  m = surface_of n.mesh

  abbrev m' : Surface
  m' = surface_of (named n)

  abbrev name : ℕ → ℕ
  name = name_in n.ids.items

module _ (pts : List Vector) (n : NamedMesh) (o : IsNamedMesh pts n) where
  abbrev at : ℕ → Vector
  at = place n.points.items

  abbrev at' : ℕ → Vector
  at' = place pts

  lives : (f : ℕ) → IsLive n.mesh f → In f (m n).live
  lives f l = (live_is_marked n.mesh f).1 l

  -- an id has the point of its position
  point_is : (c c' : ℕ) → c < length n.ids.items → c' ≡ name n c → at' c' ≡ at c
  unfolding place
  point_is c c' b e =
      ap at' (e ∙ name_is n.ids.items c b) ∙ sym (ap (λ (xs : List Vector). place xs c) o.points ∙ get_or-map (place pts) n.ids.items c 0 origin b)

  -- so an id is level with a facet if its position is
  level_same : (f : ℕ) (l : IsLive n.mesh f) (c : ℕ) → c < length n.ids.items
      → IsLevelWith at (m n) f c ↔ IsLevelWith at' (m' n) f (name n c)
  level_same f l c b = (λ h. same ∙ h, λ h. sym same ∙ h)
    where
      same : vol (at' ((m' n).i f)) (at' ((m' n).j f)) (at' ((m' n).k f)) (at' (name n c))
          ≡ vol (at ((m n).i f)) (at ((m n).j f)) (at ((m n).k f)) (at c)
      same = λ t. vol (point_is ((m n).i f) ((m' n).i f) (o.positions.i_in f l) ((names n).i_is f (lives f l)) t)
          (point_is ((m n).j f) ((m' n).j f) (o.positions.j_in f l) ((names n).j_is f (lives f l)) t)
          (point_is ((m n).k f) ((m' n).k f) (o.positions.k_in f l) ((names n).k_is f (lives f l)) t) (point_is c (name n c) b refl t)

  module _ (f g : ℕ) (l : IsLive n.mesh f) (k : IsLive n.mesh g) where
    -- the position of a corner is a corner, and conversely
    corner_named : (c : ℕ) → IsCorner (m n) g c → (c < length n.ids.items) × IsCorner (m' n) g (name n c)
    corner_named c (inl e) = rw e (o.positions.i_in g k, inl (sym ((names n).i_is g (lives g k))))
    corner_named c (inr (inl e)) = rw e (o.positions.j_in g k, inr (inl (sym ((names n).j_is g (lives g k)))))
    corner_named c (inr (inr e)) = rw e (o.positions.k_in g k, inr (inr (sym ((names n).k_is g (lives g k)))))

    corner_before : (c : ℕ) → IsCorner (m' n) g c → (d : ℕ) × IsCorner (m n) g d × (c ≡ name n d)
    corner_before c (inl e) = ((m n).i g, inl refl, e ∙ (names n).i_is g (lives g k))
    corner_before c (inr (inl e)) = ((m n).j g, inr (inl refl), e ∙ (names n).j_is g (lives g k))
    corner_before c (inr (inr e)) = ((m n).k g, inr (inr refl), e ∙ (names n).k_is g (lives g k))

    level_named : IsLevelFacet at (m n) f g → IsLevelFacet at' (m' n) f g
    level_named h c i = let r = corner_before c i in
        subst (IsLevelWith at' (m' n) f) (sym r.2) ((level_same f l r.0 (corner_named r.0 r.1).0).0 (h r.0 r.1))

    level_before : IsLevelFacet at' (m' n) f g → IsLevelFacet at (m n) f g
    level_before h c i = let r = corner_named c i in (level_same f l c r.0).1 (h (name n c) r.1)

  -- a facet that a walk over positions has found is found by a walk over ids
  pub walk_named : (f : ℕ) (before after : List Bool) (vs : List ℕ) → IsLive n.mesh f → IsWhole (m' n)
      → IsWalkFrom (IsLevelFacet at (m n) f) n.mesh before after f vs → IsWalkFrom (IsLevelFacet at' (m' n) f) (named n) before after f vs
  walk_named f before after vs l whole w = record {
    walk = record {
      facets = record { live = All-of (IsLive (named n)) vs (λ g i. named_live n g (found g i)); once = w.walk.facets.once };
      passes = All-of (IsLevelFacet at' (m' n) f) vs
          (λ g i. level_named f g l (found g i) (All-In (IsLevelFacet at (m n) f) vs g w.walk.passes i));
      marked = w.walk.marked;
    };
    further = w.further;
    start = w.start;
    own = w.own;
    crossed = λ j b. crossed (slice_index vs j) (In-get_or vs j 0 b) (w.crossed j b);
  }
    where
      found : (g : ℕ) → In g vs → IsLive n.mesh g
      found g i = All-In (IsLive n.mesh) vs g w.walk.facets.live i

      crossed : (g : ℕ) → In g vs → ((s : Side) → IsLevelFacet at (m n) f ((m n).over g s) → IsMarked after ((m n).over g s))
          → (s : Side) → IsLevelFacet at' (m' n) f ((m' n).over g s) → IsMarked after ((m' n).over g s)
      crossed g i h s x =
          let e = (names n).over_is g s (lives g (found g i)) in
          let next = (whole g ((live_is_marked (named n) g).1 (named_live n g (found g i))) s).live in
          let before = live_before n ((m' n).over g s) ((live_is_marked (named n) ((m' n).over g s)).0 next) in
          subst (IsMarked after) (sym e) (h s (level_before f ((m n).over g s) l (subst (IsLive n.mesh) e before) (subst (IsLevelFacet at' (m' n) f) e x)))
