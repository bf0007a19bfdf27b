-- The loop over the live facets of a mesh that gathers the faces of chosen facets in a list of their own.
use Rattle.qh_model.proofs.Common.{◌≡◌, inl, inr, ℕ, ◌<◌, ◌≤◌, List, [], ◌∷◌, ◌++◌}
use Rattle.qh_model.proofs.Common.{IsPermutation, length, refl, subst, sym, append_assoc, IsPermutation-append_left, IsPermutation-refl, IsPermutation-sym}
use Rattle.qh_model.proofs.Common.{IsPermutation-trans, Bool, true, false, AreClosed, IsIdSet, IsFinished, StoredFacet, surface_of, Vector, place, In, Members}
use Rattle.{qh_model.proofs.Members.in_permutation, qh_model.proofs.lists.Joined.of_append, qh_mesh.specs.contract.Replacement.IsLive}
use Rattle.{qh_surface.specs.contract.Walks.mark_at, qh_surface.proofs.LiveFacets.live_below, qh_block.specs.contract.MarkedFaces.AreFacesOfMarked}
use Rattle.qh_block.specs.steps.Faces.{AreFacetFaces, IsFacetPolygon, IsNewPlane, IsNewFace}
use Rattle.{qh_bodies.proofs.StepCounts.closed_permuted, qh_bodies.proofs.MergedFaces.behind_first, qh_block.proofs.finished.ClosedFaces.facet_faces_close}
use Rattle.qh_block.proofs.finished.{FaceLists.new_plane, Gathering.IsGathering, Gathering.gathering_starts, Gathering.gathering_goes, Gathering.gathering_ends}

-- the polygons are faces of facets with this mark, if the mesh is finished
abbrev pub AreOf : List Vector → List StoredFacet → List Bool → Bool → List (List ℕ) → Type 0
AreOf pts fs chosen mark qs = (ids : List ℕ) → IsIdSet pts ids → IsFinished (place pts) ids (surface_of fs)
    → AreFacesOfMarked (place pts) (Members ids) fs chosen mark qs

-- some facets remain to be processed: the faces that were gathered are in two lists
pub record IsParting (pts : List Vector) (fs : List StoredFacet) (chosen : List Bool) (left : List ℕ) (marks : List Bool)
    (own others : List (List ℕ)) : Type 0 where
  pub all : List (List ℕ)
  pub gathering : IsGathering pts fs left marks all
  pub same : IsPermutation all (own ++ others)
  pub own_are : AreOf pts fs chosen true own
  pub others_are : AreOf pts fs chosen false others

-- at the start no facet is marked
pub parting_starts : (pts : List Vector) (fs : List StoredFacet) (chosen marks : List Bool) → ((f : ℕ) → mark_at marks f ≡ false)
    → length fs ≤ length marks → IsParting pts fs chosen (surface_of fs).live marks [] []
parting_starts pts fs chosen marks none room = record {
  all = [];
  gathering = gathering_starts pts fs marks none room;
  same = IsPermutation-refl [];
  own_are = λ ids s z q i. absurd i;
  others_are = λ ids s z q i. absurd i;
}

module _ (pts : List Vector) (fs : List StoredFacet) (chosen marks : List Bool) (own others : List (List ℕ)) where
  -- the next facet is a place
  pub parted_place : (looked left : List ℕ) (f : ℕ) → IsParting pts fs chosen looked marks own others → looked ≡ f ∷ left → f < length fs
  parted_place looked left f old is = live_below fs f (old.gathering.live f (subst (In f) (sym is) (inl refl)))

  -- the next facet, if it has no mark, has a new face
  module _ (looked left : List ℕ) (f : ℕ) (old : IsParting pts fs chosen looked marks own others) (is : looked ≡ f ∷ left)
      (fresh : mark_at marks f ≡ false) (after : List Bool) (q : List ℕ) (room : length after ≡ length marks)
      (kept : (g : ℕ) → mark_at marks g ≡ true → mark_at after g ≡ true) (marked : mark_at after f ≡ true)
      (new : (ids : List ℕ) → IsIdSet pts ids → IsFinished (place pts) ids (surface_of fs) → IsNewPlane (place pts) fs marks f
      → IsNewFace (place pts) (Members ids) fs f marks after q) where
    live : IsLive fs f
    live = old.gathering.live f (subst (In f) (sym is) (inl refl))

    gathered : IsGathering pts fs left after (old.all ++ q ∷ [])
    gathered = gathering_goes pts fs marks old.all looked left f old.gathering is fresh after q room kept marked new

    same : IsPermutation (old.all ++ q ∷ []) ((own ++ others) ++ q ∷ [])
    same = IsPermutation-append_left (q ∷ []) old.all (own ++ others) old.same

    more : (mark : Bool) (qs : List (List ℕ)) → mark_at chosen f ≡ mark → AreOf pts fs chosen mark qs → AreOf pts fs chosen mark (qs ++ q ∷ [])
    more mark qs e are ids s z p i = elim (of_append qs (q ∷ []) p i) [
      | inl o ↦ are ids s z p o
      | inr (inl n) ↦ (let face = new ids s z (new_plane (place pts) ids fs s.distinct z marks old.all (old.gathering.faces ids s z) f live fresh) in
          (f, live, e, subst (IsFacetPolygon (place pts) (Members ids) fs f) (sym n) face.polygon))
      | inr (inr n) ↦ absurd n
    ]

    pub to_own : mark_at chosen f ≡ true → (own' : List (List ℕ)) → IsPermutation (own ++ q ∷ []) own'
        → IsParting pts fs chosen left after own' others
    to_own e own' grown = record {
      all = old.all ++ q ∷ [];
      gathering = gathered;
      same = IsPermutation-trans _ _ _ same (IsPermutation-trans _ _ _ (behind_first own others q) (IsPermutation-append_left others _ _ grown));
      own_are = λ ids s z p i. more true own e old.own_are ids s z p (in_permutation _ _ (IsPermutation-sym _ _ grown) p i);
      others_are = old.others_are;
    }

    pub to_others : mark_at chosen f ≡ false → IsParting pts fs chosen left after own (others ++ q ∷ [])
    to_others e = record {
      all = old.all ++ q ∷ [];
      gathering = gathered;
      same = rw (append_assoc own others (q ∷ [])) at same;
      own_are = old.own_are;
      others_are = more false others e old.others_are;
    }

  -- at the end each live facet has its face in one of the lists, and all faces close up
  module _ (left : List ℕ) (old : IsParting pts fs chosen left marks own others) (is : left ≡ []) (ids : List ℕ) (s : IsIdSet pts ids)
      (z : IsFinished (place pts) ids (surface_of fs)) where
    faces : AreFacetFaces (place pts) (Members ids) fs old.all
    faces = gathering_ends pts fs marks old.all left old.gathering is ids s z

    pub parted_each : (f : ℕ) → IsLive fs f → (q : List ℕ) × In q (own ++ others) × IsFacetPolygon (place pts) (Members ids) fs f q
    parted_each f l = let r = faces.each f l in (r.0, in_permutation _ _ old.same r.0 r.1, r.2)

    pub parted_close : AreClosed (own ++ others)
    parted_close = closed_permuted _ _ old.same (facet_faces_close pts ids fs s z old.all faces)
