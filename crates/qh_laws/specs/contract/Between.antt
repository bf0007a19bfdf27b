-- Points between a facet and a place inside the surface, determined by the signs of a few volumes.
-- This project's own.
use Rattle.std.specs.Prelude.{ℕ, pos, ◌+ℤ◌, ◌≤ℤ◌, ◌<ℤ◌}
use Rattle.qh_model.specs.contract.Weighted.{Weighted, weighted, above}
use Rattle.qh_model.specs.contract.Surface.{Side, Surface, start, end, rise}
use Rattle.qh_model.specs.{contract.FinishedSurface.weighted_at, headline.Vector.Vector, headline.Predicates.vol}
use Rattle.qh_laws.specs.contract.Seam.{height_over}

-- p is not above facet f, which is above o, and is not beyond the planes through o and its sides
pub record IsWithin (at : ℕ → Vector) (m : Surface) (o : Weighted) (f : ℕ) (p : Vector) : Type 0 where
  pub inner : rise m (weighted_at at) f o <ℤ pos 0
  pub below : height_over at m f p ≤ℤ pos 0
  pub sides : (s : Side) → above (weighted (at (start m f s))) (weighted (at (end m f s))) (weighted p) o ≤ℤ pos 0

-- the same, with the point of an id as o
pub record IsBetween (at : ℕ → Vector) (m : Surface) (c f : ℕ) (p : Vector) : Type 0 where
  pub inner : height_over at m f (at c) <ℤ pos 0
  pub below : height_over at m f p ≤ℤ pos 0
  pub sides : (s : Side) → vol (at (start m f s)) (at (end m f s)) p (at c) ≤ℤ pos 0

-- the same, with the middle of four ids as o; f is always above that middle
pub record IsBetweenFour (at : ℕ → Vector) (m : Surface) (s t u v f : ℕ) (p : Vector) : Type 0 where
  pub below : height_over at m f p ≤ℤ pos 0
  pub sides : (e : Side) → let a = at (start m f e) in let b = at (end m f e) in
      (vol a b p (at s) +ℤ vol a b p (at t) +ℤ vol a b p (at u) +ℤ vol a b p (at v)) ≤ℤ pos 0
