-- Points under a surface.
use Rattle.std.specs.Prelude.{ℕ, pos, ◌%◌, ◌<◌, ◌≤ℤ◌, List, length, slice_index}
use Rattle.qh_model.specs.{contract.ClosedSurface.Triple, headline.Vector.Vector, headline.Predicates.vol}
use Rattle.qh_check.specs.{declared.convex.steps.TriangleStep.TriangleStep, declared.convex.steps.TheConstants.ROOM, steps.StepKeys.step_in}

-- the id of a key along the curve
abbrev pub id_in : ℕ → ℕ
id_in key = key % ROOM

-- p lies in the cone from z over the triangle of a step, and not above the triangle
pub record IsUnderStep (at : ℕ → Vector) (z : Vector) (s : Triple) (p : Vector) : Type 0 where
  pub first : pos 0 ≤ℤ vol z (at s.i) (at s.j) p
  pub second : pos 0 ≤ℤ vol z (at s.j) (at s.k) p
  pub third : pos 0 ≤ℤ vol z (at s.k) (at s.i) p
  pub below : vol (at s.i) (at s.j) (at s.k) p ≤ℤ pos 0

-- p lies under the triangle of one of the keys
abbrev pub IsUnderOne : (ℕ → Vector) → List ℕ → Vector → Vector → Type 0
IsUnderOne at up z p = (k : ℕ) × (k < length up) × IsUnderStep at z (step_in (slice_index up k)) p

-- the three ids of a step are below a number
pub record IsStepBelow (count : ℕ) (s : TriangleStep) : Type 0 where
  pub from : s.from < count
  pub to : s.to < count
  pub third : s.third < count
