-- The planes of new facets, written one after the other.
use Rattle.qh_model.proofs.Common.{drop, slice_index, ◌≡◌, ℕ, ◌+◌, ◌<◌, ◌≤◌, arith, ◌⊎◌, inl, inr, List, length, slice_set, get_or-set_same, get_or-set_other}
use Rattle.qh_model.proofs.Common.{length-set, cases_eq, drop_all, drop_more, StoredFacet, Vector, In, place}
use Rattle.qh_pred.specs.contract.Planes.{PlaneValue, height}
use Rattle.qh_mesh.specs.contract.{Replacement.IsLive, SoundMesh.facet_vol}
use Rattle.qh_surface.specs.steps.{Planes.no_plane, Planes.plane_at, Runs.IsPlaneOf}

-- the planes of all old and new facets are right, except those of the new facets from i
pub record AreRenewed (pts : List Vector) (fs : List StoredFacet) (old : List PlaneValue) (made : List ℕ)
    (i : ℕ) (new : List PlaneValue) : Type 0 where
  pub is : (f : ℕ) → IsLive fs f → IsPlaneOf pts fs old f ⊎ In f made → IsPlaneOf pts fs new f ⊎ In f (drop i made)

module _ {pts : List Vector} {fs : List StoredFacet} {old : List PlaneValue} {made : List ℕ} where
  -- at the start no plane is written
  pub none_renewed : AreRenewed pts fs old made 0 old
  none_renewed = record { is = λ f l h. h }

  -- one more plane is written
  pub more_renewed : {ps : List PlaneValue} {i : ℕ} (plane : PlaneValue) → i < length made → slice_index made i < length ps
      → ((p : Vector) → height plane p ≡ facet_vol (place pts) fs (slice_index made i) p)
      → AreRenewed pts fs old made i ps → AreRenewed pts fs old made (i + 1) (slice_set ps (slice_index made i) plane)
  more_renewed {ps} {i} plane m b h r = record { is = λ f l g. by_cases f (cases_eq f (slice_index made i)) (r.is f l g) }
    where
      long : length (slice_set ps (slice_index made i) plane) ≡ length ps
      long = length-set ps (slice_index made i) plane

      by_cases : (f : ℕ) → (f ≡ slice_index made i) ⊎ (f ≡ slice_index made i → ⊥) → IsPlaneOf pts fs ps f ⊎ In f (drop i made)
          → IsPlaneOf pts fs (slice_set ps (slice_index made i) plane) f ⊎ In f (drop (i + 1) made)
      by_cases f (inl q) _ = inl (omega (arith, long), λ p. rw (q, get_or-set_same ps (slice_index made i) plane no_plane b) (h p))
      by_cases f (inr d) (inl (k, q)) = inl (omega (arith, long), λ p. rw (get_or-set_other ps (slice_index made i) f plane no_plane d) (q p))
      by_cases f (inr d) (inr n) = elim (rw (drop_more made i 0 m) at n) [ inl q ↦ absurd (d q) | inr l ↦ inr l ]

  -- at the end all planes are written
  pub all_renewed : {ps : List PlaneValue} {i : ℕ} → length made ≤ i → AreRenewed pts fs old made i ps
      → (f : ℕ) → IsLive fs f → IsPlaneOf pts fs old f ⊎ In f made → IsPlaneOf pts fs ps f
  all_renewed {ps} {i} b r f l g = elim (r.is f l g) [ inl h ↦ h | inr n ↦ absurd (rw (drop_all i made b) at n) ]

-- reserving memory for planes changes no plane
pub roomy : (pts : List Vector) (fs : List StoredFacet) (ps qs : List PlaneValue) (made : List ℕ)
    → ((f : ℕ) → f < length ps → (f < length qs) × (plane_at qs f ≡ plane_at ps f))
    → (f : ℕ) → IsPlaneOf pts fs ps f ⊎ In f made → IsPlaneOf pts fs qs f ⊎ In f made
roomy pts fs ps qs made k f (inl (l, h)) = inl ((k f l).0, λ p. rw (k f l).1 (h p))
roomy pts fs ps qs made k f (inr n) = inr n
