-- The faces are the same in any order.
use Rattle.qh_parts.proofs.JoinedParts.{given_in_any_order}
use Rattle.qh_parts.proofs.given.given_by.Goals as goal

pub returns : goal.returns
returns c =
    given_in_any_order _ _ c.args.set.parts.now _ _ _ c.as_run.ensures
    (rw c.in-Some.is at c.in_ok-faces.ensures.stay, rw c.in-Some.is at c.in_ok-faces.ensures.closed)
