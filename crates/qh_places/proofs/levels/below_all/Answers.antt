-- The first block that is below all planes decides.
use Rattle.{std.proofs.Common.sym, std.proofs.Common.subst, qh_places.specs.steps.Levels.IsLevel}
use Rattle.qh_places.proofs.levels.below_all.Goals as goal

pub returns-then-below-gt0 : goal.returns-then-below-gt0
returns-then-below-gt0 c = λ points all.
    c.below_all-below.ensures points
    (subst (λ l. IsLevel points l) (sym c.level-item.is) (all c.loop-level.level-index c.level-item.result c.loop-level-test.true))
