-- Supporting planes: planes through members with no member outside.
-- Source: Preparata and Hong 1977; Barber, Dobkin and Huhdanpaa 1996.
use Rattle.std.specs.Prelude.{◌≡◌, ℕ, pos, ◌≤ℤ◌}
use Rattle.qh_model.specs.headline.{Vector.Vector, Predicates.vol, Predicates.AreInLine}

-- no member is above the plane of i, j, k
abbrev pub Supports : (ℕ → Vector) → (ℕ → Type 0) → ℕ → ℕ → ℕ → Type 0
Supports at A i j k = (l : ℕ) → A l → vol (at i) (at j) (at k) (at l) ≤ℤ pos 0

-- three members, not in line, with no member above their plane; the normal cross(i, j, k) points outside
pub record IsSupportingTriple (at : ℕ → Vector) (A : ℕ → Type 0) (i j k : ℕ) : Type 0 where
  pub has_i : A i
  pub has_j : A j
  pub has_k : A k
  pub area : ¬ (AreInLine (at i) (at j) (at k))
  pub supports : Supports at A i j k

-- the members in the plane of i, j, k
abbrev pub OnPlane : (ℕ → Vector) → (ℕ → Type 0) → ℕ → ℕ → ℕ → ℕ → Type 0
OnPlane at A i j k l = A l × (vol (at i) (at j) (at k) (at l) ≡ pos 0)
