-- Pieces of the faces of a hull.
use Rattle.qh_check.specs.contract.Pieces.{BeginsWith, IsMetRound}
use Rattle.qh_model.specs.headline.{Predicates.place, Predicates.cross, Vector.Vector}
use Rattle.{qh_pred.specs.contract.Turns.sign, qh_pred.specs.contract.Turns.first_product, std.specs.Ordering.is_gt}
use Rattle.std.specs.Prelude.{ℕ, ◌<◌, List, [], IsTrue, length, slice_index_or}

-- the first three corners of q turn left in the plane of those of the face, as one component of its normal shows
pub record TurnsAlike (pts : List Vector) (face q : List ℕ) : Type 0 where
  pub u : ℕ
  pub v : ℕ
  pub w : ℕ
  pub i : ℕ
  pub j : ℕ
  pub k : ℕ
  pub plane : BeginsWith face u v w
  pub begins : BeginsWith q i j k
  pub turn : IsTrue (is_gt (sign (first_product (cross (place pts u) (place pts v) (place pts w)) (cross (place pts i) (place pts j) (place pts k)))))

-- the polygon goes round corners of the face at a position, and turns as the face does
abbrev pub IsPieceOfFace : List Vector → List (List ℕ) → ℕ → List ℕ → Type 0
IsPieceOfFace pts faces k q =
    (k < length faces) × IsMetRound q (slice_index_or faces k []) × TurnsAlike pts (slice_index_or faces k []) q

-- the polygon is a piece of one of the faces
abbrev pub IsPieceAmong : List Vector → List (List ℕ) → List ℕ → Type 0
IsPieceAmong pts faces q = (k : ℕ) × IsPieceOfFace pts faces k q
