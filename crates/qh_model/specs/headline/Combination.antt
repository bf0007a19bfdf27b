-- Convex combinations, in whole numbers.
-- Source: Carathéodory's theorem: in space four members are enough.
use Rattle.std.specs.Prelude.{◌≡◌, ℕ, ◌+◌, ◌<◌, ℤ, pos, ◌+ℤ◌, ◌*ℤ◌}
use Rattle.qh_model.specs.headline.Vector.{Vector}

-- along one coordinate: (w1 + w2 + w3 + w4) p = w1 a + w2 b + w3 c + w4 d
abbrev pub IsBalanced : ℕ → ℕ → ℕ → ℕ → ℤ → ℤ → ℤ → ℤ → ℤ → Type 0
IsBalanced w1 w2 w3 w4 p a b c d = pos (w1 + w2 + w3 + w4) *ℤ p ≡ pos w1 *ℤ a +ℤ pos w2 *ℤ b +ℤ pos w3 *ℤ c +ℤ pos w4 *ℤ d

-- p is a convex combination of the points of A: it lies in a segment, triangle or tetrahedron of them
pub record Combination (at : ℕ → Vector) (A : ℕ → Type 0) (p : Vector) : Type 0 where
  pub a : ℕ
  pub b : ℕ
  pub c : ℕ
  pub d : ℕ
  pub has_a : A a
  pub has_b : A b
  pub has_c : A c
  pub has_d : A d
  pub w1 : ℕ
  pub w2 : ℕ
  pub w3 : ℕ
  pub w4 : ℕ
  pub some_weight : 0 < w1 + w2 + w3 + w4
  pub x : IsBalanced w1 w2 w3 w4 p.x (at a).x (at b).x (at c).x (at d).x
  pub y : IsBalanced w1 w2 w3 w4 p.y (at a).y (at b).y (at c).y (at d).y
  pub z : IsBalanced w1 w2 w3 w4 p.z (at a).z (at b).z (at c).z (at d).z
