-- The corners of the parts are kept.
use Rattle.std.proofs.lemmas.{Option.IfSome_then, Result.IfOk-weaker}
use Rattle.qh_parts.proofs.joining.hull_of_parts.Goals as goal

pub hull_at_joint-requires-clause-given : goal.hull_at_joint-requires-clause-given
hull_at_joint-requires-clause-given g c = rw (c.in-Some.is, c.deref.ensures.value, c.deref-2.ensures.value) at c.in_ok-joint.ensures.given

pub returns : goal.returns
returns g c =
    let kept = rw (c.in-Some.is, c.deref.ensures.value, c.deref-2.ensures.value) at c.in_ok-joint.ensures.kept in
    IfOk-weaker c.hull_at_joint.result _ _ (λ found f. IfSome_then found f (λ b is set. is c.args.ids.now kept set)) c.hull_at_joint.ensures
