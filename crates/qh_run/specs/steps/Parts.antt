-- Parts of a set of ids that have its hull.
-- Source: Preparata and Hong 1977 (points that are not extreme in a part can be left out).
use Rattle.std.specs.{Prelude.ℕ, Prelude.◌⊎◌, Prelude.List, List.Sorted.IsStrictlyIncreasing}
use Rattle.qh_model.specs.headline.{Extreme.Extreme, Vector.Vector, Predicates.place, Sets.In, Sets.Members, Hull.BodyValue, Hull.IsBody}
use Rattle.qh_model.specs.contract.IdSets.{IsIdSet}

-- the part has rising ids of the set, and its hull is that of the set
pub record StandsFor (pts : List Vector) (ids part : List ℕ) : Type 0 where
  pub rising : IsStrictlyIncreasing part
  pub within : (i : ℕ) → In i part → In i ids
  pub hull : (b : BodyValue) → IsBody (place pts) (Members part) b → IsBody (place pts) (Members ids) b

-- ids of a set that contain all its extreme ids, together with the rest of the ids, which was not processed yet
pub record HasExtremesBefore (pts : List Vector) (ids rest kept : List ℕ) : Type 0 where
  pub set : IsIdSet pts rest
  pub later : (i : ℕ) → In i rest → In i ids
  pub within : (i : ℕ) → In i kept → In i ids
  pub extremes : (i : ℕ) → Extreme (place pts) (Members ids) i → In i kept ⊎ In i rest
