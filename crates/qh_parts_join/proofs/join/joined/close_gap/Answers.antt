-- The border is checked first.
use Rattle.std.proofs.lemmas.Result.{IfOk-weaker}
use Rattle.qh_parts_join.proofs.join.joined.close_gap.Goals as goal

pub returns-clause-border : goal.returns-clause-border
returns-clause-border g c =
    IfOk-weaker c.are_bridges.result _ _ (λ _ _ _. c.in_ok-closes.ensures.0 c.if-not-closes.false) c.are_bridges.ensures
