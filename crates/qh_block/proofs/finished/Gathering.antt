-- The loop over the live facets of a mesh that gathers its faces.
use Rattle.qh_surface.{specs.contract.Walks.mark_at, proofs.LiveFacets.live_below}
use Rattle.{qh_mesh.specs.contract.Replacement.IsLive, qh_model.proofs.surfaces.Stored.live_is_marked, qh_bodies.proofs.FaceOrder.apart_permuted}
use Rattle.qh_model.proofs.{Common.IsPermutation, Common.IsPermutation-sym, Members.in_permutation}
use Rattle.qh_block.proofs.finished.FaceLists.{no_faces, new_plane, next_face}
use Rattle.qh_block.specs.steps.Faces.{IsNewPlane, IsNewFace, AreMarkedFaces, AreFacetFaces}
use Rattle.qh_model.proofs.Common.{◌≡◌, ◌⊎◌, inl, inr, ⊎_elim, ℕ, ◌<◌, ◌≤◌, List, [], ◌∷◌, ◌++◌}
use Rattle.qh_model.proofs.Common.{length, sym, subst, refl, arith, Bool, true, false, Vector, place, In, Members, IsIdSet, IsFinished, StoredFacet, surface_of}

-- some facets remain to be processed
pub record IsGathering (pts : List Vector) (fs : List StoredFacet) (left : List ℕ) (marks : List Bool) (qs : List (List ℕ))
    : Type 0 where
  pub room : length fs ≤ length marks
  pub live : (v : ℕ) → In v left → IsLive fs v
  pub rest : (g : ℕ) → IsLive fs g → (mark_at marks g ≡ true) ⊎ In g left
  pub faces : (ids : List ℕ) → IsIdSet pts ids → IsFinished (place pts) ids (surface_of fs)
      → AreMarkedFaces (place pts) (Members ids) fs marks qs

-- at the start no facet is marked
pub gathering_starts : (pts : List Vector) (fs : List StoredFacet) (marks : List Bool) → ((f : ℕ) → mark_at marks f ≡ false)
    → length fs ≤ length marks → IsGathering pts fs (surface_of fs).live marks []
gathering_starts pts fs marks none room = record {
  room = room;
  live = λ v i. (live_is_marked fs v).0 i;
  rest = λ g l. inr ((live_is_marked fs g).1 l);
  faces = λ ids s z. no_faces (place pts) ids fs s.distinct z marks (λ g e. let b = none g in cc);
}

module _ (pts : List Vector) (fs : List StoredFacet) (marks : List Bool) (qs : List (List ℕ)) where
  -- the order of the faces does not matter
  pub gathering_permuted : (left : List ℕ) (ps : List (List ℕ)) → IsPermutation qs ps → IsGathering pts fs left marks qs
      → IsGathering pts fs left marks ps
  gathering_permuted left ps same old = record {
    room = old.room;
    live = old.live;
    rest = old.rest;
    faces = λ ids s z. let a = old.faces ids s z in record {
      each = λ f l m. (let r = a.each f l m in (r.0, in_permutation qs ps same r.0 r.1, r.2));
      only = λ q i. a.only q (in_permutation ps qs (IsPermutation-sym qs ps same) q i);
      whole = a.whole;
      apart = apart_permuted qs ps same a.apart;
    };
  }

  -- the next facet has a place; if it has no mark, its face is one more face
  module _ (all left : List ℕ) (f : ℕ) (old : IsGathering pts fs all marks qs) (is : all ≡ f ∷ left) where
    live : IsLive fs f
    live = old.live f (subst (In f) (sym is) (inl refl))

    pub next_within : f < length marks
    next_within = let h = live_below fs f live in let r = old.room in omega arith

    pub gathering_goes : mark_at marks f ≡ false → (after : List Bool) (q : List ℕ) → length after ≡ length marks
        → ((g : ℕ) → mark_at marks g ≡ true → mark_at after g ≡ true) → mark_at after f ≡ true
        → ((ids : List ℕ) → IsIdSet pts ids → IsFinished (place pts) ids (surface_of fs) → IsNewPlane (place pts) fs marks f
        → IsNewFace (place pts) (Members ids) fs f marks after q) → IsGathering pts fs left after (qs ++ q ∷ [])
    gathering_goes fresh after q room kept own new = record {
      room = (omega (arith, old.room, room));
      live = λ v i. old.live v (subst (In v) (sym is) (inr i));
      rest = λ g l. ⊎_elim (λ k. inl (kept g k)) (λ i. ⊎_elim (λ e. inl (rw e own)) (λ k. inr k) (subst (In g) is i)) (old.rest g l);
      faces = λ ids s z. (let faces = old.faces ids s z in next_face (place pts) ids fs s.distinct z marks qs faces f live fresh after q
          (new ids s z (new_plane (place pts) ids fs s.distinct z marks qs faces f live fresh)));
    }

  -- at the end all live facets are marked
  pub gathering_ends : (left : List ℕ) → IsGathering pts fs left marks qs → left ≡ []
      → (ids : List ℕ) → IsIdSet pts ids → IsFinished (place pts) ids (surface_of fs) → AreFacetFaces (place pts) (Members ids) fs qs
  gathering_ends left old is ids s z = let a = old.faces ids s z in record {
    each = λ f l. a.each f l (⊎_elim (λ k. k) (λ i. absurd (subst (In f) is i)) (old.rest f l));
    only = λ q i. (let r = a.only q i in (r.0, r.1, r.3));
    apart = a.apart;
  }
