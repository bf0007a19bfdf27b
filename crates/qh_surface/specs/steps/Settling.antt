-- How one orphan gets its outside set, and which points are released when facets are removed.
-- Source: Barber, Dobkin and Huhdanpaa 1996 (the points of removed facets are partitioned among the new ones).
use Rattle.std.specs.Prelude.{All, ◌≡◌, ℕ, ◌⊎◌, Bool, List, [], drop, slice_index, slice_index_or, slice_set, pos, ◌≤ℤ◌, ◌<ℤ◌}
use Rattle.qh_model.specs.headline.{Vector.Vector, Vector.origin, Sets.In}
use Rattle.qh_pred.specs.contract.Planes.{PlaneValue, height}
use Rattle.qh_surface.specs.{contract.OutsideSets.OutsideValue, contract.OutsideSets.set_of, contract.OutsideSets.joined, steps.Planes.plane_at}

-- the point at position p is above none of the facets
abbrev pub IsAboveNone : List PlaneValue → List ℕ → Vector → Type 0
IsAboveNone ps made q = All (λ f. height (plane_at ps f) q ≤ℤ pos 0) made

-- the first orphan is above none of the facets, and is in no set
pub record IsDropped (ps : List PlaneValue) (points : List Vector) (made : List ℕ) (old new : OutsideValue) : Type 0 where
  pub unseen : IsAboveNone ps made (slice_index_or points (slice_index old.orphans 0) origin)
  pub sets : new.sets ≡ old.sets

-- the first orphan joined the set of one of the facets that it is above
pub record IsAssigned (ps : List PlaneValue) (points : List Vector) (made : List ℕ) (old new : OutsideValue) : Type 0 where
  pub facet : ℕ
  pub named : In facet made
  pub seen : pos 0 <ℤ height (plane_at ps facet) (slice_index_or points (slice_index old.orphans 0) origin)
  pub in_front : Bool
  pub sets : new.sets ≡ slice_set old.sets facet (joined in_front (slice_index old.orphans 0) (set_of old facet))

-- the first orphan was dropped or assigned, and is no longer an orphan
pub record IsOneSettled (ps : List PlaneValue) (points : List Vector) (made : List ℕ) (old new : OutsideValue) : Type 0 where
  pub orphans : new.orphans ≡ drop 1 old.orphans
  pub fate : IsDropped ps points made old new ⊎ IsAssigned ps points made old new

-- the sets of the facets are empty, their points are orphans, and the other sets do not change
pub record AreReleased (old new : OutsideValue) (gone : List ℕ) : Type 0 where
  pub emptied : (f : ℕ) → In f gone → set_of new f ≡ []
  pub kept : (f p : ℕ) → In p (set_of new f) → In p (set_of old f)
  pub moved : (f p : ℕ) → In p (set_of old f) → In p (set_of new f) ⊎ In p new.orphans
  pub orphans : (p : ℕ) → In p new.orphans → In p old.orphans ⊎ ((f : ℕ) × In f gone × In p (set_of old f))
