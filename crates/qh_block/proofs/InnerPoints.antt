-- Points inside the hull of a sample: its planes, and the parts of a set without the points that columns between the planes hold.
use Rattle.qh_model.proofs.Common.{ℕ, ◌≡◌, ◌⊎◌, ⊎_elim, inl, inr, List, [], ◌∷◌, ◌++◌, All, refl, subst, IsFinished, StoredFacet, surface_of, Vector, place, In}
use Rattle.qh_model.proofs.{Common.Members, Common.Extreme, Common.Others, Members.All-In, extremes.ExtremeIds.combination_within}
use Rattle.qh_model.proofs.{surfaces.Inside.inner_is_not_extreme, surfaces.Stored.live_is_marked, lists.Joined.in_append}
use Rattle.{qh_pred.specs.contract.Planes.PlaneValue, qh_mesh.specs.contract.Replacement.IsLive}
use Rattle.qh_block.specs.{contract.Cells.IsCellOf, contract.KeptIds.HasNoExtreme, contract.KeptIds.KeepsExtremes, declared.regions.columns.Columns.Columns}
use Rattle.qh_block.specs.steps.InnerPoints.{HasPlane, HasPlanes, IsUnderFacet, AreInner, IsOuterPart}
use Rattle.{qh_block.proofs.CellParts.held_is_below, qh_surface.proofs.LiveFacets.all_live, qh_surface.proofs.LiveFacets.rest_live}

-- ---- the planes of the live facets
-- facets whose planes are not listed remain
pub record AreListed (pts : List Vector) (fs : List StoredFacet) (left : List ℕ) (planes : List PlaneValue) : Type 0 where
  pub live : All (IsLive fs) left
  pub rest : (g : ℕ) → IsLive fs g → HasPlane pts fs planes g ⊎ In g left

-- at the start all facets remain
pub none_listed : (pts : List Vector) (fs : List StoredFacet) → AreListed pts fs (surface_of fs).live []
none_listed pts fs = record { live = all_live fs (surface_of fs).live refl; rest = λ g l. inr ((live_is_marked fs g).1 l) }

module _ {pts : List Vector} {fs : List StoredFacet} {all left : List ℕ} {f : ℕ} {planes : List PlaneValue}
    (old : AreListed pts fs all planes) where
  -- the plane of the next facet is listed
  pub next_listed : all ≡ f ∷ left → (plane : PlaneValue) → IsUnderFacet pts fs f plane → AreListed pts fs left (planes ++ plane ∷ [])
  next_listed is plane own = record {
    live = rest_live fs all left f old.live is;
    rest = λ g l. ⊎_elim (λ h. inl (h.0, in_append planes (plane ∷ []) h.0 (inl h.1), h.2))
        (λ i. ⊎_elim (λ e. inl (plane, in_append planes (plane ∷ []) plane (inr (inl refl)), rw e own)) (λ m. inr m) (subst (In g) is i)) (old.rest g l);
  }

-- if no facet remains, all planes are listed
pub all_listed : {pts : List Vector} {fs : List StoredFacet} {all : List ℕ} {planes : List PlaneValue} → AreListed pts fs all planes
    → all ≡ [] → HasPlanes pts fs planes
all_listed old is g l = ⊎_elim (λ p. p) (λ i. absurd (subst (In g) is i)) (old.rest g l)

-- ---- columns
-- points that columns between all planes of the sample's surface hold are not extreme
pub columns_are_inner : (pts : List Vector) (sample : List ℕ) (fs : List StoredFacet) (columns : Columns)
    → IsFinished (place pts) sample (surface_of fs) → HasPlanes pts fs columns.planes.items → All (IsCellOf columns.planes.items) columns.cells.items
    → AreInner pts sample columns
columns_are_inner pts sample fs columns z has cells ids sub l member held =
    inner_is_not_extreme (place pts) sample (surface_of fs) z l (λ f live. (let h = has f ((live_is_marked fs f).0 live) in h.2 (place pts l) held.2.0
    (held_is_below columns.planes.items held.0 (place pts l) (All-In (IsCellOf columns.planes.items) columns.cells.items held.0 cells held.1) held.2 h.0 h.1)))
    ids sub

-- ---- parts of a set
-- the kept ids of a set are a part with all its extreme ids
pub kept_part : (pts : List Vector) (held : Vector → Type 0) (ids kept : List ℕ) → HasNoExtreme pts ids held → KeepsExtremes pts held ids kept
    → IsOuterPart pts ids kept
kept_part pts held ids kept none h = let k = h.each ids (λ i m. m) none in record {
  rising = k.rising;
  extremes = record { within = k.within; extremes = λ i e. k.extremes i e.0 e };
}

-- a part of an outer part is an outer part: an id that is extreme among more points is extreme among fewer
pub part_of_part : (pts : List Vector) (ids first second : List ℕ) → IsOuterPart pts ids first → IsOuterPart pts first second
    → IsOuterPart pts ids second
part_of_part pts ids first second one two = record {
  rising = λ r. two.rising (one.rising r);
  extremes = record { within = λ i m. one.extremes.within i (two.extremes.within i m); extremes = λ i e. two.extremes.extremes i (still i e) };
}
  where
    still : (i : ℕ) → Extreme (place pts) (Members ids) i → Extreme (place pts) (Members first) i
    still i e = (
      one.extremes.extremes i e,
      λ mix. e.1 (combination_within (place pts) (Others (Members first) i)
          (Others (Members ids) i) (place pts i) mix (λ j o. (one.extremes.within j o.0, o.1))),
    )
