-- The points of the ids so far lie under triangles.
use Rattle.qh_model.proofs.Common.{ℕ, length, take, place, In}
use Rattle.qh_check.specs.steps.Hidden.{id_in, IsStepBelow, IsUnderOne}
use Rattle.qh_check.proofs.convex.hidden.Surroundings.are_under.Given as goal

abbrev pub invariant-loop-key : goal.invariant-loop-key
invariant-loop-key l = IsStepBelow (length l.self.pts.now) l.step
    × ((key : ℕ) → In key (take l.key-index l.keys) →
    IsUnderOne (place l.self.pts.now) l.self.up.now l.self.middle (place l.self.pts.now (id_in key)))
