use Rattle.qh_model.proofs.Common.{◌+◌, sym, subst, ℕ, InSpan}
use Rattle.qh_tests_run.specs.Rising.{IsRisingListOf}
use Rattle.qh_tests_run.proofs.RisingLists.{alone_rises}
use Rattle.qh_tests_run.proofs.tests.board.passes.take_turn.Goals as goal

pub climb-requires-clause-right : goal.climb-requires-clause-right
climb-requires-clause-right c =
    let B : ℕ = c.args.board.now.setup.blocks in
    let j : ℕ = c.args.block in
    subst (λ z. IsRisingListOf (InSpan B z) c.in_ok-alone.field-0.items) (sym c.requires.leaf.1)
    (subst (λ l. IsRisingListOf (InSpan B (B + j)) l) (sym c.in_ok-alone.ensures) (alone_rises B j c.requires.leaf.0))
