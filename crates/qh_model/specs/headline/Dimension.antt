-- The dimension of a set of ids of distinct points.
use Rattle.std.specs.Prelude.{ℕ, pos, ◌≡◌, ◌≢◌, ◌⊎◌}
use Rattle.qh_model.specs.headline.{Vector.Vector, Predicates.vol, Predicates.AreInLine}

-- some four members are not in one plane
pub record HasTetrahedron (at : ℕ → Vector) (A : ℕ → Type 0) : Type 0 where
  pub i : ℕ
  pub j : ℕ
  pub k : ℕ
  pub l : ℕ
  pub has_i : A i
  pub has_j : A j
  pub has_k : A k
  pub has_l : A l
  pub volume : vol (at i) (at j) (at k) (at l) ≢ pos 0

-- some three members are not in one line
pub record HasTriangle (at : ℕ → Vector) (A : ℕ → Type 0) : Type 0 where
  pub i : ℕ
  pub j : ℕ
  pub k : ℕ
  pub has_i : A i
  pub has_j : A j
  pub has_k : A k
  pub area : ¬ (AreInLine (at i) (at j) (at k))

-- some two members differ
pub record HasSegment (A : ℕ → Type 0) : Type 0 where
  pub i : ℕ
  pub j : ℕ
  pub has_i : A i
  pub has_j : A j
  pub differ : i ≢ j

-- the dimension of a set that is not empty
abbrev pub IsDimension : (ℕ → Vector) → (ℕ → Type 0) → ℕ → Type 0
IsDimension at A k =
    ((k ≡ 3) × HasTetrahedron at A)
    ⊎ ((k ≡ 2) × HasTriangle at A × ¬ (HasTetrahedron at A))
    ⊎ ((k ≡ 1) × HasSegment A × ¬ (HasTriangle at A))
    ⊎ ((k ≡ 0) × ¬ (HasSegment A))
