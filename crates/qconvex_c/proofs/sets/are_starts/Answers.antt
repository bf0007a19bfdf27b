use Rattle.qconvex_c.proofs.{StartsTest.falls, StartsTest.beyond, sets.are_starts.Goals.then-start-last-via-then-start-last}
use Rattle.qconvex_c.proofs.sets.are_starts.Goals as goal
use Rattle.qconvex_c.proofs.sets.are_starts.Goals.{then-start-last-via-else-start-last+then-start-count}

pub returns-then-start-last : goal.returns-then-start-last
returns-then-start-last c = elim c.then-start-last.branch [
  | then-start-last-via-then-start-last w ↦ (
    λ e. absurd (cc),
    λ are. absurd
        (falls _ _ are _ _ c.loop-start-test.true c.loop-start.invariant.before c.loop-start.invariant.first w.if-start-last.true),
  )
  | then-start-last-via-else-start-last+then-start-count w ↦
      (λ e. absurd (cc), λ are. absurd (beyond _ _ are _ c.loop-start-test.true w.if-start-count.true))
]
