-- The result of a test of each edge and each hidden id.
use Rattle.std.specs.Prelude.{ℕ, List}
use Rattle.qh_model.specs.{contract.ClosedSurface.Triple, headline.Vector.Vector, headline.Sets.In}
use Rattle.qh_check.specs.steps.{CornerMarks.AreHidden, Hidden.IsUnderOne, Rays.IsMetOnce, StepKeys.AreSharpPairs, StepKeys.AreSteps, StepKeys.EdgesRise}

-- a ray from z meets the triangles once; each step is taken once, as is the step back, with the corner past it strictly below; and the ids are the corners and
-- hidden ids, each of which lies under a triangle
pub record AreSharp (at : ℕ → Vector) (ids : List ℕ) (ts : List Triple) : Type 0 where
  pub z : Vector
  pub d : Vector
  pub met : IsMetOnce at ts z d
  pub hidden : List ℕ
  pub corners : AreHidden ts ids hidden
  pub up : List ℕ
  pub down : List ℕ
  pub steps : AreSteps ts up down
  pub rise : EdgesRise up
  pub pairs : AreSharpPairs at up down
  pub under : (l : ℕ) → In l hidden → IsUnderOne at up z (at l)
