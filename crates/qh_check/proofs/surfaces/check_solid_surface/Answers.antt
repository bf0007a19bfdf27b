-- A fault that was found gives the verdict, or the steps do.
use Rattle.{std.proofs.lemmas.Result.IfOk-weaker, qh_check.proofs.SurfaceVerdicts.is_no_piece}
use Rattle.qh_check.proofs.surfaces.check_solid_surface.Goals as goal

pub returns-in-Some : goal.returns-in-Some
returns-in-Some c = λ set solid.
    is_no_piece c.args.claim.pts.now c.args.claim.ids.now c.args.claim.polygons.now set solid c.in-Some.finding
    (rw c.in-Some.is at (c.in_ok-finding.ensures set solid))

pub returns : goal.returns
returns c = IfOk-weaker c.judge_steps.result _ _ (λ v h set solid.
    h c.args.claim.pts.now c.args.claim.ids.now set solid c.requires (rw c.in_default.is at (c.in_ok-finding.ensures set solid))) c.judge_steps.ensures
