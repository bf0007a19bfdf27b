-- Separators: directions that put a point strictly beyond a set.
-- Source: Farkas' lemma, as the theorem of the separating plane.
use Rattle.std.specs.Prelude.{ℕ, ◌<ℤ◌}
use Rattle.qh_model.specs.headline.Vector.{Vector, dot}

-- along w the point p is strictly beyond the point of each member of A
pub record Separator (at : ℕ → Vector) (A : ℕ → Type 0) (p : Vector) : Type 0 where
  pub w : Vector
  pub past : (i : ℕ) → A i → dot w (at i) <ℤ dot w p
