use Rattle.{std.proofs.Common.subst, std.proofs.Common.sym, qconvex_c.proofs.RightVerdicts.right_verdict, qconvex_c.specs.contract.Checked.IsVerdictOn}
use Rattle.qconvex_c.proofs.checked.qconvex_check.Goals as goal

pub returns-in-Ok-clause-right : goal.returns-in-Ok-clause-right
returns-in-Ok-clause-right c = λ e.
    right_verdict _ _ _ c.verdict_of.result
    (subst (IsVerdictOn c.args.points.now c.args.offsets.now c.args.corners.now) (sym c.verdict_of.ensures) c.in-Ok.ensures)
