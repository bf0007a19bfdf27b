-- A walk in the plane of a facet gathers the face of that plane.
use Rattle.qh_block.specs.steps.Faces.{IsListedCorner, IsNewPlane, IsNewFace}
use Rattle.qh_mesh.{proofs.ListedFacets.in_listed, proofs.ListedFacets.listed_in, specs.contract.Replacement.IsLive, specs.contract.Replacement.is_listed}
use Rattle.qh_model.proofs.Common.{inl, inr, ⊎_elim, ℕ, List, refl, Bool, ◌↔◌, IsStrictlyIncreasing, IsIdSet, Surface, Side, IsCorner, IsFinished}
use Rattle.qh_model.proofs.Common.{StoredFacet, surface_of, Vector, place, cross, In, Members, Extreme, OnPlane, IsPolygon, IsLevelFacet, CornerInPlane}
use Rattle.qh_model.proofs.{extremes.Directions.along_itself, hulls.SameSets.extreme_as, polygons.Direction.polygon_as, surfaces.Complete.extremes_of_plane}
use Rattle.qh_model.proofs.surfaces.{FacetPlanes.plane_walk_finds_all, Finished.facet_area, Finished.facets_support, Stored.live_is_marked}
use Rattle.{qh_polygon.specs.contract.PlanarSets.IsPlanarSet, qh_surface.proofs.FoundFacets.found_live}
use Rattle.qh_surface.{proofs.FoundFacets.found_passes, proofs.FoundFacets.found_marked, proofs.FoundFacets.found_over, specs.contract.Walks.IsWalkFrom}

module _ (pts : List Vector) (ids : List ℕ) (fs : List StoredFacet) (f : ℕ) (before after : List Bool) (vs : List ℕ)
    (set : IsIdSet pts ids) (z : IsFinished (place pts) ids (surface_of fs)) (live : IsLive fs f) (new : IsNewPlane (place pts) fs before f)
    (w : IsWalkFrom (IsLevelFacet (place pts) (surface_of fs) f) fs before after f vs) where
  abbrev m : Surface
  m = surface_of fs

  abbrev at : ℕ → Vector
  at = place pts

  -- the normal of the facet, and the corners of its plane
  abbrev normal : Vector
  normal = cross (at (m.i f)) (at (m.j f)) (at (m.k f))

  abbrev InPlane : ℕ → Type 0
  InPlane = CornerInPlane at m (m.i f) (m.j f) (m.k f)

  lives : (g : ℕ) → IsLive fs g → In g m.live
  lives g l = (live_is_marked fs g).1 l

  on_live : (g : ℕ) → In g vs → IsLive fs g
  on_live = found_live (IsLevelFacet at m f) fs before after f vs w

  on_level : (g : ℕ) → In g vs → IsLevelFacet at m f g
  on_level = found_passes (IsLevelFacet at m f) fs before after f vs w

  -- the walk finds the whole plane
  grows : (g : ℕ) → In g m.live → (s : Side) → In g vs → IsLevelFacet at m f (m.over g s) → In (m.over g s) vs
  grows g i s e level = found_over (IsLevelFacet at m f) fs before after f vs w g s e level
      (λ h. new (m.over g s) ((live_is_marked fs (m.over g s)).0 (z.whole g i s).live) h level)

  found : (g : ℕ) → IsLive fs g → IsLevelFacet at m f g → In g vs
  found g l level = listed_in vs g (plane_walk_finds_all at ids m z f (lives f live) (is_listed vs)
      (record { has = in_listed vs f w.start; grows = λ g i s e x. in_listed vs (m.over g s) (grows g i s (listed_in vs g e) x) })
      g (lives g l) level)

  module _ (corners q : List ℕ) (members : (i : ℕ) → In i corners ↔ IsListedCorner fs vs i) where
    -- the corners are ids
    among : (l : ℕ) → In l corners → Members ids l
    among l i = let c = (members l).0 i in z.corners c.0 (lives c.0 (on_live c.0 c.1)) l c.2

    own : (l : ℕ) → IsCorner m f l → In l corners
    own l c = (members l).1 (f, w.start, c)

    -- the ids are those of the corners of the plane's facets
    corner : (l : ℕ) → Members corners l ↔ InPlane l
    corner l = (
      λ i. (let c = (members l).0 i in record { f = c.0; live = lives c.0 (on_live c.0 c.1); level = on_level c.0 c.1; corner = c.2 }),
      λ c. (members l).1 (c.f, found c.f ((live_is_marked fs c.f).0 c.live) c.level, c.corner),
    )

    extreme : (l : ℕ) → Extreme at (Members corners) l ↔ OnPlane at (Extreme at (Members ids)) (m.i f) (m.j f) (m.k f) l
    extreme l =
        let law = extremes_of_plane at ids m set.distinct z (m.i f) (m.j f) (m.k f) (facets_support at ids m z f (lives f live)) l in (
          λ x. law.0 ((extreme_as at (Members corners) InPlane corner l).0 x),
          λ x. (extreme_as at (Members corners) InPlane corner l).1 (law.1 x),
        )

    -- so a polygon of the corners is the face
    pub face_of_corners : IsPolygon at (Extreme at (Members corners)) normal q → IsNewFace at (Members ids) fs f before after q
    face_of_corners polygon = record {
      kept = w.further.kept;
      marked = λ g l level. found_marked (IsLevelFacet at m f) fs before after f vs w g (found g l level);
      only = λ g h. ⊎_elim (λ b. inl b) (λ i. inr (on_live g i, on_level g i)) (w.further.only g h);
      polygon = polygon_as at (Extreme at (Members corners)) (OnPlane at (Extreme at (Members ids)) (m.i f) (m.j f) (m.k f)) normal normal q
          extreme (along_itself normal) polygon;
    }

    -- the face as the polygon of a planar set, given the corners
    pub new_face : IsStrictlyIncreasing corners → (IsPlanarSet pts corners normal
        → IsPolygon at (Extreme at (Members corners)) normal q) → IsNewFace at (Members ids) fs f before after q
    new_face rising polygon = face_of_corners (polygon (record {
      set = record { rising = rising; distinct = λ x y i j e. set.distinct x y (among x i) (among y j) e };
      i = m.i f;
      j = m.j f;
      k = m.k f;
      has_i = own (m.i f) (inl refl);
      has_j = own (m.j f) (inr (inl refl));
      has_k = own (m.k f) (inr (inr refl));
      area = facet_area at ids m z f (lives f live);
      plane = λ l i. (let c = (members l).0 i in on_level c.0 c.1 l c.2);
      normal = inl refl;
    }))
