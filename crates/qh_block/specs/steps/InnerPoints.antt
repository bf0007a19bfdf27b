-- Points that a filter finds inside a set: in cells of space, below all planes of the hull of a sample of the set.
use Rattle.qh_block.specs.{contract.Cells.HoldsPoint, contract.KeptIds.HasNoExtreme, declared.regions.columns.Columns.Columns}
use Rattle.{qh_mesh.specs.contract.Replacement.IsLive, qh_mesh.specs.contract.SoundMesh.facet_vol, qh_model.specs.contract.Places.IsPlace}
use Rattle.qh_model.specs.{contract.StoredSurface.StoredFacet, headline.Predicates.place, headline.Sets.In, headline.Vector.Vector, laws.HullLaws.HasExtremes}
use Rattle.qh_pred.specs.contract.Planes.{PlaneValue, height}
use Rattle.std.specs.{List.Sorted.IsStrictlyIncreasing, Prelude.◌<ℤ◌, Prelude.ℕ, Prelude.List, Prelude.pos}

-- each point that is strictly below a plane is strictly below that of facet f
abbrev pub IsUnderFacet : List Vector → List StoredFacet → ℕ → PlaneValue → Type 0
IsUnderFacet pts fs f plane = (p : Vector) → IsPlace p → height plane p <ℤ pos 0 → facet_vol (place pts) fs f p <ℤ pos 0

-- the list has a plane of this kind for facet f
abbrev pub HasPlane : List Vector → List StoredFacet → List PlaneValue → ℕ → Type 0
HasPlane pts fs planes f = (plane : PlaneValue) × In plane planes × IsUnderFacet pts fs f plane

-- the list has a plane of this kind for each live facet
abbrev pub HasPlanes : List Vector → List StoredFacet → List PlaneValue → Type 0
HasPlanes pts fs planes = (f : ℕ) → IsLive fs f → HasPlane pts fs planes f

-- the columns do not hold the point of any extreme id of any set that has the sample
abbrev pub AreInner : List Vector → List ℕ → Columns → Type 0
AreInner pts sample columns = (ids : List ℕ) → ((i : ℕ) → In i sample → In i ids) → HasNoExtreme pts ids (HoldsPoint columns)

-- a part of a set with all its extreme ids, rising if the set rises
pub record IsOuterPart (pts : List Vector) (ids part : List ℕ) : Type 0 where
  pub rising : IsStrictlyIncreasing ids → IsStrictlyIncreasing part
  pub extremes : HasExtremes pts ids part
