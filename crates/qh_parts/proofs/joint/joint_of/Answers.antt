-- The contributions of the parts are merged.
use Rattle.qh_parts.proofs.JoinedParts.{given_in_any_order}
use Rattle.qh_parts.proofs.joint.joint_of.Goals as goal

pub returns-clause-given : goal.returns-clause-given
returns-clause-given g c =
    given_in_any_order _ _ c.args.set.parts.now _ _ _ (rw c.in_ok-faces.was at c.join-kept.ensures.second) (rw c.in-Some.is at c.in_ok-given.ensures)

pub returns-clause-kept : goal.returns-clause-kept
returns-clause-kept g c = (rw c.in_ok-kept.was at c.join-kept.ensures.first) c.if-not-kept.false
