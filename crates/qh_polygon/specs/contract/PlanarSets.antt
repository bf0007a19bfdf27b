-- Sets of ids whose points lie in one plane.
use Rattle.std.specs.Prelude.{ℕ, pos, ◌≡◌, ◌⊎◌, List}
use Rattle.qh_model.specs.contract.IdSets.{IsIdSet}
use Rattle.qh_model.specs.headline.Predicates.{cross, vol, AreInLine, place}
use Rattle.qh_model.specs.headline.{Sets.In, Vector.Vector, Vector.origin, Vector.minus}

-- rising ids of distinct points in one plane and not in one line; n is the normal of three of them, or its opposite
pub record IsPlanarSet (pts : List Vector) (ids : List ℕ) (n : Vector) : Type 0 where
  pub set : IsIdSet pts ids
  pub i : ℕ
  pub j : ℕ
  pub k : ℕ
  pub has_i : In i ids
  pub has_j : In j ids
  pub has_k : In k ids
  pub area : ¬ (AreInLine (place pts i) (place pts j) (place pts k))
  pub plane : (l : ℕ) → In l ids → vol (place pts i) (place pts j) (place pts k) (place pts l) ≡ pos 0
  pub normal : (n ≡ cross (place pts i) (place pts j) (place pts k)) ⊎ (n ≡ minus origin (cross (place pts i) (place pts j) (place pts k)))
